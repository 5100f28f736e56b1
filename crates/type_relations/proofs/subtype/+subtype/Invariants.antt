use Rattle.std.proofs.Common.{◌+◌, ◌*◌, ◌≤◌}
use Rattle.std.specs.Prelude.{◌↔◌}
use Rattle.schema_types.specs.Ty.{size_of, size_of_attrs}
use Rattle.schema_types.specs.TyView.{kind_of, attrs_of}
use Rattle.type_relations.specs.Subtype.{SubAttrs, Covers}
use Rattle.type_relations.proofs.Pending.{pending}
use Rattle.type_relations.proofs.subtype.+subtype.Given as goal

abbrev pub decreases-is_subtype : goal.decreases-is_subtype
decreases-is_subtype l = 4 * size_of l.a.now + 1

abbrev pub decreases-is_sub_kind : goal.decreases-is_sub_kind
decreases-is_sub_kind l = 4 * size_of (kind_of l.a.now)

abbrev pub decreases-is_sub_attributes : goal.decreases-is_sub_attributes
decreases-is_sub_attributes l = 4 * size_of_attrs l.a.now + 3

abbrev pub decreases-is_sub_attrs : goal.decreases-is_sub_attrs
decreases-is_sub_attrs l = 4 * size_of_attrs l.a.now + 2

abbrev pub decreases-covers : goal.decreases-covers
decreases-covers l = 4 * size_of_attrs l.a.now + 2

abbrev pub decreases-is_below : goal.decreases-is_below
decreases-is_below l = 4 * size_of l.x.now.attr_type + 2

-- what is left decides
abbrev pub invariant-is_sub_attrs-loop-key : goal.invariant-is_sub_attrs-loop-key
invariant-is_sub_attrs-loop-key l = record {
  left : SubAttrs l.mode l.a l.b ↔ SubAttrs l.mode (attrs_of l.key-iterator) (attrs_of l.rest);
  size : size_of_attrs (attrs_of l.key-iterator) ≤ size_of_attrs l.a;
}

abbrev pub invariant-covers-loop-key : goal.invariant-covers-loop-key
invariant-covers-loop-key l = record {
  left : Covers l.mode l.a l.b ↔ Covers l.mode (attrs_of l.key-iterator) (attrs_of (pending l.expected l.rest));
  size : size_of_attrs (attrs_of l.key-iterator) ≤ size_of_attrs l.a;
}
