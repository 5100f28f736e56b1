use Rattle.std.proofs.Common.{◌≡◌, ◌+◌, ◌*◌, ◌≤◌}
use Rattle.std.specs.List.Sorted.{IsStrictlySortedBy}
use Rattle.std.specs.Map.{keys_of}
use Rattle.policy_values.specs.Uid.{text_cmp}
use Rattle.policy_values.specs.Value.{size_of, size_of_fields, fields_of}
use Rattle.reads_spec.specs.Merge.{merge_fields}
use Rattle.entity_loader.proofs.values.+merging.Given as goal

abbrev pub decreases-merge_values : goal.decreases-merge_values
decreases-merge_values l = 3 * size_of l.b.now

abbrev pub decreases-merge_with : goal.decreases-merge_with
decreases-merge_with l = 3 * size_of l.value.now + 1

abbrev pub decreases-merge_fields : goal.decreases-merge_fields
decreases-merge_fields l = 3 * size_of_fields (fields_of l.others.now.entries) + 2

abbrev pub invariant-merge_fields-loop-key : goal.invariant-merge_fields-loop-key
invariant-merge_fields-loop-key l = record {
  left : merge_fields (fields_of l.merged.entries) (fields_of l.key-iterator) ≡ merge_fields (fields_of l.fields.entries) (fields_of l.others.entries);
  ordered : IsStrictlySortedBy text_cmp (keys_of l.merged.entries);
  ascending : IsStrictlySortedBy text_cmp (keys_of l.key-iterator);
  within : size_of_fields (fields_of l.key-iterator) ≤ size_of_fields (fields_of l.others.entries);
}
