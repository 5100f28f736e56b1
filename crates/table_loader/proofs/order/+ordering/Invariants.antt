use Rattle.std.proofs.Common.{◌+◌, ◌*◌}
use Rattle.policy_values.specs.Value.{size_of, size_of_fields, fields_of}
use Rattle.table_loader.proofs.Ordering.{IsLookingAt}
use Rattle.table_loader.proofs.order.+ordering.Given as goal

abbrev pub decreases-value_is_ordered : goal.decreases-value_is_ordered
decreases-value_is_ordered l = 2 * size_of l.value.now

abbrev pub decreases-fields_are_ordered : goal.decreases-fields_are_ordered
decreases-fields_are_ordered l = 2 * size_of_fields (fields_of l.fields.now.entries) + 1

-- what is left is still to be looked at
abbrev pub invariant-fields_are_ordered-loop-key : goal.invariant-fields_are_ordered-loop-key
invariant-fields_are_ordered-loop-key l = IsLookingAt l.fields.entries l._key-iterator
