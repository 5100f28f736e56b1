use Rattle.std.proofs.Common.{◌≡◌, ◌++◌, take}
use Rattle.std.specs.List.{filter}
use Rattle.typing_spec.specs.Recovered.{lends}
use Rattle.typing_spec.proofs.known.push_held.Given as goal

abbrev pub invariant-loop-k : goal.invariant-loop-k
invariant-loop-k l = l.items.items ≡ l.initial.items.items ++ filter (lends l.held.keys) (take l.k-index l.others.items)
