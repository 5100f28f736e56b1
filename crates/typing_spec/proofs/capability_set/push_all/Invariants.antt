use Rattle.std.proofs.Common.{◌≡◌, ◌++◌, take}
use Rattle.typing_spec.proofs.capability_set.push_all.Given as goal

abbrev pub invariant-loop-k : goal.invariant-loop-k
invariant-loop-k l = l.items.items ≡ l.initial.items.items ++ take l.k-index l.others.items
