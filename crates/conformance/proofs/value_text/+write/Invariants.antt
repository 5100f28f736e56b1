use Rattle.std.proofs.Common.{◌≡◌, ◌+◌, ◌*◌, ◌≤◌, ◌++◌, drop, string_bytes}
use Rattle.policy_values.specs.Value.{size_of, size_of_all, size_of_fields, vals_of, fields_of}
use Rattle.conformance.specs.ValueText.{elements_text, elements_left, fields_text, fields_left}
use Rattle.conformance.proofs.value_text.+write.Given as goal

abbrev pub decreases-write_value : goal.decreases-write_value
decreases-write_value l = 5 * size_of l.v.now

abbrev pub decreases-write_set : goal.decreases-write_set
decreases-write_set l = 5 * size_of_all (vals_of l.items.now.items) + 4

abbrev pub decreases-write_elements : goal.decreases-write_elements
decreases-write_elements l = 5 * size_of_all (vals_of l.items.now.items) + 3

abbrev pub decreases-write_record : goal.decreases-write_record
decreases-write_record l = 5 * size_of_fields (fields_of l.fields.now.entries) + 4

abbrev pub decreases-write_fields : goal.decreases-write_fields
decreases-write_fields l = 5 * size_of_fields (fields_of l.fields.now.entries) + 3

abbrev pub decreases-write_field : goal.decreases-write_field
decreases-write_field l = 5 * size_of l.v.now + 1

-- the text so far, and then the parts that are left
abbrev pub invariant-write_elements-loop-item : goal.invariant-write_elements-loop-item
invariant-write_elements-loop-item l = string_bytes l.text ++ elements_left l.is_first l.left (vals_of (drop l.item-index l.items.items)) ≡ string_bytes l.fn.text ++ elements_text 4 (vals_of l.items.items)

abbrev pub invariant-write_fields-loop-key : goal.invariant-write_fields-loop-key
invariant-write_fields-loop-key l = record {
  left : string_bytes l.text ++ fields_left l.is_first l.left (fields_of l.key-iterator) ≡ string_bytes l.fn.text ++ fields_text 4 (fields_of l.fields.entries);
  size : size_of_fields (fields_of l.key-iterator) ≤ size_of_fields (fields_of l.fields.entries);
}
