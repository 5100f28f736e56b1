use Rattle.std.proofs.Common.{◌≡◌, ◌+◌, ◌*◌, ◌≤◌, map, take, drop}
use Rattle.std.specs.List.{AllByRecursion}
use Rattle.policy_values.specs.Value.{size_of, size_of_all, size_of_fields, vals_of, fields_of}
use Rattle.serde_json.specs.Data.{no_members}
use Rattle.serde_json.specs.View.{view, members_view}
use Rattle.json_response.specs.ValueJson.{value_data}
use Rattle.json_response.specs.ReadBack.{IsReadBack}
use Rattle.json_response.proofs.Steps.{with_fields}
use Rattle.json_response.proofs.values.+write.Given as goal

abbrev pub decreases-write : goal.decreases-write
decreases-write l = 2 * size_of l.value.now

abbrev pub decreases-write_items : goal.decreases-write_items
decreases-write_items l = 2 * size_of_all (vals_of l.items.now.items) + 1

abbrev pub decreases-write_fields : goal.decreases-write_fields
decreases-write_fields l = 2 * size_of_fields (fields_of l.fields.now.entries) + 1

abbrev pub invariant-write_items-loop-item : goal.invariant-write_items-loop-item
invariant-write_items-loop-item l = record {
  written : map view l.written.items ≡ map value_data (take l.item-index l.item-items);
  read_back : AllByRecursion IsReadBack (drop l.item-index l.item-items) → AllByRecursion IsReadBack l.item-items;
}

-- what is left, put into what there is, gives the whole
abbrev pub invariant-write_fields-loop-key : goal.invariant-write_fields-loop-key
invariant-write_fields-loop-key l = record {
  written : with_fields (fields_of l.key-iterator) (members_view l.members.entries) ≡ with_fields (fields_of l.fields.entries) no_members;
  read_back : AllByRecursion (λ e. IsReadBack e.1) l.key-iterator → AllByRecursion (λ e. IsReadBack e.1) l.fields.entries;
  size : size_of_fields (fields_of l.key-iterator) ≤ size_of_fields (fields_of l.fields.entries);
}
