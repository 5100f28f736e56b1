use Rattle.std.proofs.Common.{◌≡◌, ◌≤◌, ◌+◌, ◌*◌, ◌++◌, drop, map}
use Rattle.std.specs.Map.Iter.{deref}
use Rattle.policy_values.specs.declared.entity_uid.EntityUID.{EntityUID}
use Rattle.policy_values.specs.Value.{size_of, size_of_all, size_of_fields, vals_of, fields_of}
use Rattle.level_spec.specs.Cut.{ids_in_all, ids_in_fields}
use Rattle.level_validate.proofs.held.+ids.Given as goal

abbrev pub decreases-add_ids : goal.decreases-add_ids
decreases-add_ids l = 2 * size_of l.value.now

abbrev pub decreases-add_ids_of_all : goal.decreases-add_ids_of_all
decreases-add_ids_of_all l = 2 * size_of_all (vals_of l.items.now.items) + 1

abbrev pub decreases-add_ids_of_fields : goal.decreases-add_ids_of_fields
decreases-add_ids_of_fields l = 2 * size_of_fields (fields_of l.fields.now.entries) + 1

-- the ids so far, and then those of what is left
abbrev pub invariant-add_ids_of_all-loop-item : goal.invariant-add_ids_of_all-loop-item
invariant-add_ids_of_all-loop-item l = record {
  so_far : map (deref {X = EntityUID}) l.ids.items ++ ids_in_all (vals_of (drop l.item-index l.items.items)) ≡ map (deref {X = EntityUID}) l.fn.ids.items ++ ids_in_all (vals_of l.items.items);
  size : size_of_all (vals_of (drop l.item-index l.items.items)) ≤ size_of_all (vals_of l.items.items);
}

abbrev pub invariant-add_ids_of_fields-loop-item : goal.invariant-add_ids_of_fields-loop-item
invariant-add_ids_of_fields-loop-item l = record {
  so_far : map (deref {X = EntityUID}) l.ids.items ++ ids_in_fields (fields_of l.item-iterator) ≡ map (deref {X = EntityUID}) l.fn.ids.items ++ ids_in_fields (fields_of l.fields.entries);
  size : size_of_fields (fields_of l.item-iterator) ≤ size_of_fields (fields_of l.fields.entries);
}
