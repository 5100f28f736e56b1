-- What a schema type holds is smaller than it.
use Rattle.std.specs.Prelude.{ℕ, ◌≤◌, List, [], ◌∷◌, map}
use Rattle.std.proofs.Common.{arith}
use denote.Param.Weighed.{most}
use Rattle.schema_types.specs.Ty.{size_of, size_of_attrs}
use Rattle.schema_types.specs.SchemaView.{schema_ty_of, schema_attrs_of}
use Rattle.schema_types.specs.declared.schema_type.SchemaTypeKind.{SchemaTypeKind}
use Rattle.schema_types.specs.declared.schema_type.SchemaTypeKind.TheVariants.{Bool, Long, String, EmptySet, Set, Record, Entity, Extension}
use Rattle.schema_types.specs.declared.schema_type.SchemaAttribute.{SchemaAttribute}
use Rattle.schema_types.specs.declared.schema_type.SchemaType.TheInside.{Inside}
use Rattle.schema_types.specs.declared.schema_type.SchemaAttributes.TheInside.{Inside as InsideAttrs}
use Rattle.schema_types.specs.declared.schema_type.SchemaAttributes.TheDeep.{deep-SchemaType, deep-SchemaTypeKind, deep-SchemaAttributes, deep-SchemaAttribute}

most_le-attrs : (es : List (List ℕ × SchemaAttribute)) →
    most (λ x. deep-SchemaAttribute x) (map (λ e. e.1) es) ≤ size_of_attrs (schema_attrs_of es)
most_le-attrs [] = omega arith
most_le-attrs (e ∷ es) = omega (arith, most_le-attrs es)

kind_falls : (k : SchemaTypeKind) → deep-SchemaTypeKind k ≤ size_of (schema_ty_of k)
kind_falls Bool = omega arith
kind_falls Long = omega arith
kind_falls String = omega arith
kind_falls EmptySet = omega arith
kind_falls (Set t) = omega arith
kind_falls (Record xs o) = omega arith
kind_falls (Entity n) = omega arith
kind_falls (Extension n) = omega arith

pub schema_falls : (a : Inside) → deep-SchemaType a ≤ size_of (schema_ty_of a.kind)
schema_falls a = omega (arith, kind_falls a.kind)

pub schema_attrs_fall : (a : InsideAttrs) →
    deep-SchemaAttributes a ≤ size_of_attrs (schema_attrs_of a.attrs.entries)
schema_attrs_fall a = omega (arith, most_le-attrs a.attrs.entries)
