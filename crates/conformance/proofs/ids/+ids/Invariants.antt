use Rattle.std.proofs.Common.{◌≡◌, ◌+◌, ◌*◌, ◌≤◌, drop}
use Rattle.policy_values.specs.Value.{size_of, size_of_all, size_of_fields, vals_of, fields_of}
use Rattle.conformance.specs.Ids.{unlisted_in_all, unlisted_in_fields}
use Rattle.conformance.proofs.ids.+ids.Given as goal

abbrev pub decreases-unlisted_in : goal.decreases-unlisted_in
decreases-unlisted_in l = 2 * size_of l.v.now

abbrev pub decreases-unlisted_in_set : goal.decreases-unlisted_in_set
decreases-unlisted_in_set l = 2 * size_of_all (vals_of l.items.now.items) + 1

abbrev pub decreases-unlisted_in_fields : goal.decreases-unlisted_in_fields
decreases-unlisted_in_fields l = 2 * size_of_fields (fields_of l.fields.now.entries) + 1

-- what is left decides
abbrev pub invariant-unlisted_in_set-loop-item : goal.invariant-unlisted_in_set-loop-item
invariant-unlisted_in_set-loop-item l = unlisted_in_all l.schema (vals_of l.items.items) ≡ unlisted_in_all l.schema (vals_of (drop l.item-index l.items.items))

abbrev pub invariant-unlisted_in_fields-loop-v : goal.invariant-unlisted_in_fields-loop-v
invariant-unlisted_in_fields-loop-v l = record {
  left : unlisted_in_fields l.schema (fields_of l.fields.entries) ≡ unlisted_in_fields l.schema (fields_of l.v-iterator);
  size : size_of_fields (fields_of l.v-iterator) ≤ size_of_fields (fields_of l.fields.entries);
}
