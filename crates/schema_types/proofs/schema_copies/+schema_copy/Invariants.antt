use Rattle.std.proofs.Common.{◌≡◌, ◌+◌, ◌*◌, ◌++◌, ◌≤◌}
use Rattle.schema_types.specs.Ty.{size_of, size_of_attrs}
use Rattle.schema_types.specs.SchemaView.{schema_ty_of, schema_attrs_of}
use Rattle.schema_types.proofs.schema_copies.+schema_copy.Given as goal

abbrev pub decreases-schema_copy : goal.decreases-schema_copy
decreases-schema_copy l = 4 * size_of l.t.now + 2

abbrev pub decreases-schema_copy_of_kind : goal.decreases-schema_copy_of_kind
decreases-schema_copy_of_kind l = 4 * size_of (schema_ty_of l.k.now) + 1

abbrev pub decreases-schema_copy_of_attributes : goal.decreases-schema_copy_of_attributes
decreases-schema_copy_of_attributes l = 4 * size_of_attrs l.a.now + 3

abbrev pub decreases-schema_copy_of_entries : goal.decreases-schema_copy_of_entries
decreases-schema_copy_of_entries l = 4 * size_of_attrs (schema_attrs_of l.entries.now.entries) + 1

abbrev pub invariant-schema_copy_of_entries-loop-key : goal.invariant-schema_copy_of_entries-loop-key
invariant-schema_copy_of_entries-loop-key l = record {
  all : l.entries.entries ≡ l.copies.entries ++ l.key-iterator;
  size : size_of_attrs (schema_attrs_of l.key-iterator) ≤ size_of_attrs (schema_attrs_of l.entries.entries);
}
