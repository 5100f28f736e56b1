use Rattle.std.proofs.Common.{◌≡◌, ◌+◌, ◌*◌, ◌≤◌, drop}
use Rattle.policy_values.specs.Value.{size_of, size_of_all, size_of_fields, vals_of, fields_of}
use Rattle.policy_values.specs.ValueOrder.{vals_cmp, fields_cmp}
use Rattle.policy_values.proofs.value.+compare.Given as goal

abbrev pub decreases-compare : goal.decreases-compare
decreases-compare l = 2 * size_of l.a.now

abbrev pub decreases-compare_all : goal.decreases-compare_all
decreases-compare_all l = 2 * size_of_all (vals_of l.a.now.items) + 1

abbrev pub decreases-compare_fields : goal.decreases-compare_fields
decreases-compare_fields l = 2 * size_of_fields (fields_of l.a.now.entries) + 1

-- what is left decides
abbrev pub invariant-compare_all-loop-i : goal.invariant-compare_all-loop-i
invariant-compare_all-loop-i l =
    vals_cmp (vals_of (drop l.i l.a.items)) (vals_of (drop l.i l.b.items)) ≡ vals_cmp (vals_of l.a.items) (vals_of l.b.items)

abbrev pub invariant-compare_fields-loop-key : goal.invariant-compare_fields-loop-key
invariant-compare_fields-loop-key l =
    (fields_cmp (fields_of l.key-iterator) (fields_of l.rest) ≡ fields_cmp (fields_of l.a.entries) (fields_of l.b.entries))
    × (size_of_fields (fields_of l.key-iterator) ≤ size_of_fields (fields_of l.a.entries))
