-- One level of a type.
use Rattle.std.specs.Prelude.{ℕ, List, [], ◌∷◌, Some, None}
use Rattle.schema_types.specs.Ty.{Ty, never, true_type, false_type, primitive, any_set, set_of, record_of, any_entity, entity, action, extension, Attrs, no_attrs, attr}
use Rattle.schema_types.specs.declared.ty.TypeKind.{TypeKind}
use Rattle.schema_types.specs.declared.ty.TypeKind.TheVariants.{Never, True, False, Primitive, Set, EntityOrRecord, ExtensionType}
use Rattle.schema_types.specs.declared.ty.EntityRecordKind.{EntityRecordKind}
use Rattle.schema_types.specs.declared.ty.EntityRecordKind.TheVariants.{Record, AnyEntity, Entity, ActionEntity}
use Rattle.schema_types.specs.declared.ty.AttributeType.{AttributeType}

abbrev pub kind_of : EntityRecordKind → Ty
kind_of (Record xs o) = record_of xs o
kind_of AnyEntity = any_entity
kind_of (Entity l) = entity l
kind_of (ActionEntity n xs) = action n xs

abbrev pub ty_of : TypeKind → Ty
ty_of Never = never
ty_of True = true_type
ty_of False = false_type
ty_of (Primitive p) = primitive p
ty_of (Set None) = any_set
ty_of (Set (Some t)) = set_of t.value
ty_of (EntityOrRecord k) = kind_of k
ty_of (ExtensionType n) = extension n

abbrev pub attrs_of : List (List ℕ × AttributeType) → Attrs
attrs_of [] = no_attrs
attrs_of (e ∷ es) = attr e.0 e.1.attr_type e.1.is_required (attrs_of es)
