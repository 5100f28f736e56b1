-- Schema types are seen as the types that they name.
use Rattle.std.specs.Prelude.{ℕ, List, [], ◌∷◌}
use Rattle.schema_types.specs.declared.kinds.Primitive.TheVariants.{Bool as BoolType, Long as LongType, String as StringType}
use Rattle.schema_types.specs.Ty.{Ty, primitive, any_set, set_of, record_of, entity, extension, Attrs, no_attrs, attr}
use Rattle.schema_types.specs.declared.schema_type.SchemaTypeKind.{SchemaTypeKind}
use Rattle.schema_types.specs.declared.schema_type.SchemaTypeKind.TheVariants.{Bool, Long, String, EmptySet, Set, Record, Entity, Extension}
use Rattle.schema_types.specs.declared.schema_type.SchemaAttribute.{SchemaAttribute}

abbrev pub schema_ty_of : SchemaTypeKind → Ty
schema_ty_of Bool = primitive BoolType
schema_ty_of Long = primitive LongType
schema_ty_of String = primitive StringType
schema_ty_of EmptySet = any_set
schema_ty_of (Set t) = set_of t.value
schema_ty_of (Record xs o) = record_of xs o
schema_ty_of (Entity n) = entity (n ∷ [])
schema_ty_of (Extension n) = extension n

abbrev pub schema_attrs_of : List (List ℕ × SchemaAttribute) → Attrs
schema_attrs_of [] = no_attrs
schema_attrs_of (e ∷ es) = attr e.0 e.1.attr_type e.1.is_required (schema_attrs_of es)

-- the place of a kind in the order of types
abbrev pub place_among : SchemaTypeKind → ℕ
place_among Bool = 0
place_among Long = 1
place_among String = 2
place_among EmptySet = 3
place_among (Set t) = 4
place_among (Record xs o) = 5
place_among (Entity n) = 6
place_among (Extension n) = 7
