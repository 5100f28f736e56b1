use Rattle.std.proofs.Common.{◌≡◌, ◌++◌, take}
use Rattle.typing_spec.specs.Capability.{common}
use Rattle.typing_spec.proofs.capability_set.push_known.Given as goal

abbrev pub invariant-loop-k : goal.invariant-loop-k
invariant-loop-k l = l.items.items ≡ l.initial.items.items ++ common (take l.k-index l.others.items) l.known
