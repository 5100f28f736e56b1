use Rattle.std.proofs.Common.{◌≡◌, drop}
use Rattle.policy_values.specs.Value.{vals_of}
use Rattle.policy_values.specs.Sets.{elements_of, has_some}
use Rattle.policy_values.proofs.sets.has_some.Given as goal

abbrev pub invariant-loop-item : goal.invariant-loop-item
invariant-loop-item l =
    has_some (elements_of l.set) (vals_of (drop l.item-index l.items.items)) ≡ has_some (elements_of l.set) (vals_of l.items.items)
