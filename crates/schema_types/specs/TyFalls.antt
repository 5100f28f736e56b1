-- Children of types are smaller.
use Rattle.std.specs.Prelude.{ℕ, ◌≤◌, List, [], ◌∷◌, map, Some, None}
use Rattle.std.proofs.Common.{arith}
use denote.Param.Weighed.{most}
use Rattle.schema_types.specs.Ty.{size_of, size_of_attrs}
use Rattle.schema_types.specs.TyView.{ty_of, kind_of, attrs_of}
use Rattle.schema_types.specs.declared.ty.TypeKind.{TypeKind}
use Rattle.schema_types.specs.declared.ty.TypeKind.TheVariants.{Never, True, False, Primitive, Set, EntityOrRecord, ExtensionType}
use Rattle.schema_types.specs.declared.ty.EntityRecordKind.{EntityRecordKind}
use Rattle.schema_types.specs.declared.ty.EntityRecordKind.TheVariants.{Record, AnyEntity, Entity, ActionEntity}
use Rattle.schema_types.specs.declared.ty.AttributeType.{AttributeType}
use Rattle.schema_types.specs.declared.ty.Type.TheInside.{Inside}
use Rattle.schema_types.specs.declared.ty.Attributes.TheInside.{Inside as InsideAttrs}
use Rattle.schema_types.specs.declared.ty.Attributes.TheDeep.{deep-Type, deep-TypeKind, deep-EntityRecordKind, deep-Attributes, deep-AttributeType}

most_le-attrs : (es : List (List ℕ × AttributeType)) →
    most (λ x. deep-AttributeType x) (map (λ e. e.1) es) ≤ size_of_attrs (attrs_of es)
most_le-attrs [] = omega arith
most_le-attrs (e ∷ es) = omega (arith, most_le-attrs es)

record_falls : (k : EntityRecordKind) → deep-EntityRecordKind k ≤ size_of (kind_of k)
record_falls (Record xs o) = omega arith
record_falls AnyEntity = omega arith
record_falls (Entity l) = omega arith
record_falls (ActionEntity n xs) = omega arith

kind_falls : (k : TypeKind) → deep-TypeKind k ≤ size_of (ty_of k)
kind_falls Never = omega arith
kind_falls True = omega arith
kind_falls False = omega arith
kind_falls (Primitive p) = omega arith
kind_falls (Set None) = omega arith
kind_falls (Set (Some t)) = omega arith
kind_falls (EntityOrRecord k) = omega (arith, record_falls k)
kind_falls (ExtensionType n) = omega arith

pub falls : (a : Inside) → deep-Type a ≤ size_of (ty_of a.kind)
falls a = omega (arith, kind_falls a.kind)

pub attrs_fall : (a : InsideAttrs) → deep-Attributes a ≤ size_of_attrs (attrs_of a.attrs.value.entries)
attrs_fall a = omega (arith, most_le-attrs a.attrs.value.entries)
