use Rattle.std.proofs.Common.{◌≡◌, ◌<◌, ◌++◌, All, drop, length, map, option_map}
use Rattle.std.specs.Map.{keys_of, values_of}
use Rattle.std.specs.List.Sorted.{IsStrictlySortedBy}
use Rattle.policy_values.specs.Uid.{text_cmp}
use Rattle.json.specs.Value.{members_view}
use Rattle.serde_json.specs.Data.{no_members}
use Rattle.json_values.specs.Values.{values_of as vals_said, value_entries_of}
use Rattle.json_trees.specs.Places.{placed_view}
use Rattle.json_trees.specs.Trees.{members_data, trees_view}
use Rattle.json_trees.proofs.readings.+value.Given as goal

-- those so far, and then those of what is left, are all
abbrev pub invariant-read_items-loop-item : goal.invariant-read_items-loop-item
invariant-read_items-loop-item l = option_map (λ xs. l.all.items ++ xs) (vals_said (trees_view (drop l.item-index l.items))) ≡ vals_said (trees_view l.items)

-- the same of fields; their names and those that are left ascend, and what is left are places of members
abbrev pub invariant-read_entries-loop-key : goal.invariant-read_entries-loop-key
invariant-read_entries-loop-key l = record {
  read : option_map (λ xs. l.fields.entries ++ xs) (value_entries_of (placed_view l.members l.key-iterator)) ≡ value_entries_of (members_data (members_view l.members) no_members);
  sorted : IsStrictlySortedBy text_cmp (keys_of l.fields.entries ++ map (λ b. b.now) (keys_of l.key-iterator));
  left : All (λ i. i < length l.members) (values_of l.key-iterator);
}
