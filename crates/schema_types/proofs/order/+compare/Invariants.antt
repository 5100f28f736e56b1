use Rattle.std.proofs.Common.{◌≡◌, ◌+◌, ◌*◌, ◌≤◌}
use Rattle.schema_types.specs.Ty.{size_of, size_of_attrs}
use Rattle.schema_types.specs.TyView.{ty_of, kind_of, attrs_of}
use Rattle.schema_types.specs.TyOrder.{attrs_cmp}
use Rattle.schema_types.proofs.order.+compare.Given as goal

abbrev pub decreases-compare : goal.decreases-compare
decreases-compare l = 4 * size_of l.a.now + 2

abbrev pub decreases-compare_type_kinds : goal.decreases-compare_type_kinds
decreases-compare_type_kinds l = 4 * size_of (ty_of l.a.now) + 1

abbrev pub decreases-compare_kinds : goal.decreases-compare_kinds
decreases-compare_kinds l = 4 * size_of (kind_of l.a.now)

abbrev pub decreases-compare_attributes : goal.decreases-compare_attributes
decreases-compare_attributes l = 4 * size_of_attrs l.a.now + 3

-- what is left decides
abbrev pub invariant-compare_attributes-loop-key : goal.invariant-compare_attributes-loop-key
invariant-compare_attributes-loop-key l = record {
  left : attrs_cmp (attrs_of l.key-iterator) (attrs_of l.rest) ≡ attrs_cmp l.a l.b;
  size : size_of_attrs (attrs_of l.key-iterator) ≤ size_of_attrs l.a;
}
