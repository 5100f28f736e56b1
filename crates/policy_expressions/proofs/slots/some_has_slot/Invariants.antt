use Rattle.std.proofs.Common.{◌≡◌, drop}
use Rattle.policy_expressions.specs.Tree.{trees_of}
use Rattle.policy_expressions.specs.Slots.{some_has_slot}
use Rattle.policy_expressions.proofs.slots.some_has_slot.Given as goal

-- what is left decides
abbrev pub invariant-loop-item : goal.invariant-loop-item
invariant-loop-item g l = some_has_slot (trees_of (drop l.item-index l.items.items)) ≡ some_has_slot (trees_of l.items.items)
