use Rattle.std.proofs.Common.{◌≡◌, ◌+◌, ◌*◌, ◌≤◌}
use Rattle.schema_types.specs.Ty.{size_of, size_of_attrs}
use Rattle.schema_types.specs.SchemaView.{schema_ty_of, schema_attrs_of}
use Rattle.schema_types.specs.TyOrder.{attrs_cmp}
use Rattle.schema_types.proofs.schema_compared.+schema_compare.Given as goal

abbrev pub decreases-schema_compare : goal.decreases-schema_compare
decreases-schema_compare l = 4 * size_of l.a.now + 2

abbrev pub decreases-schema_compare_kinds : goal.decreases-schema_compare_kinds
decreases-schema_compare_kinds l = 4 * size_of (schema_ty_of l.a.now) + 1

abbrev pub decreases-schema_compare_attributes : goal.decreases-schema_compare_attributes
decreases-schema_compare_attributes l = 4 * size_of_attrs l.a.now + 3

-- what is left decides
abbrev pub invariant-schema_compare_attributes-loop-key : goal.invariant-schema_compare_attributes-loop-key
invariant-schema_compare_attributes-loop-key l = record {
  left : attrs_cmp (schema_attrs_of l.key-iterator) (schema_attrs_of l.rest) ≡ attrs_cmp l.a l.b;
  size : size_of_attrs (schema_attrs_of l.key-iterator) ≤ size_of_attrs l.a;
}
