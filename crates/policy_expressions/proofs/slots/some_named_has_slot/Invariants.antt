use Rattle.std.proofs.Common.{◌≡◌}
use Rattle.policy_expressions.specs.Tree.{named_of}
use Rattle.policy_expressions.specs.Slots.{some_named_has_slot}
use Rattle.policy_expressions.proofs.slots.some_named_has_slot.Given as goal

abbrev pub invariant-loop-item : goal.invariant-loop-item
invariant-loop-item g l = some_named_has_slot (named_of l.item-iterator) ≡ some_named_has_slot (named_of l.fields.entries)
