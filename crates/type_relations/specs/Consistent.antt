-- When some value may be of a schema type and of a type at once.
use Rattle.std.specs.Prelude.{ℕ, Bool, true, false, not, ◌&&◌, ◌||◌, List, [], ◌∷◌, Option, Some, None, is_some}
use Rattle.schema_types.specs.declared.kinds.Primitive.{Primitive}
use Rattle.schema_types.specs.declared.kinds.Primitive.TheVariants.{Bool as BoolType, Long, String}
use Rattle.schema_types.specs.declared.kinds.OpenTag.{OpenTag}
use Rattle.schema_types.specs.declared.ty.AttributeType.{AttributeType}
use Rattle.schema_types.specs.Names.{has_name}
use Rattle.schema_types.specs.Ty.{Ty, true_type, false_type, primitive, any_set, set_of, record_of, any_entity, entity, action, extension, Attrs, no_attrs, attr, is_open}
use Rattle.schema_types.specs.Attrs.{attr_at}
use Rattle.type_relations.specs.Join.{text_eq}
use Rattle.type_relations.specs.Member.{type_of}

-- booleans with True, False and Bool; longs and strings with themselves
abbrev pub consistent_primitive : Primitive → Ty → Bool
consistent_primitive BoolType true_type = true
consistent_primitive BoolType false_type = true
consistent_primitive BoolType (primitive BoolType) = true
consistent_primitive Long (primitive Long) = true
consistent_primitive String (primitive String) = true
consistent_primitive p t = false

-- an entity type with any entity, with types that it is one of, and with actions of it
abbrev pub has_type : List ℕ → Ty → Bool
has_type n any_entity = true
has_type n (entity ns) = has_name ns n
has_type n (action m xs) = text_eq n m
has_type n t = false

-- a schema type names one entity type
abbrev pub has_one_type : List (List ℕ) → Ty → Bool
has_one_type [] t = false
has_one_type (n ∷ []) t = has_type n t
has_one_type (m ∷ n ∷ ns) t = false

-- a key on both sides is there with consistent types; one on one side alone may be there alone
abbrev pub agrees_at : Bool → Option AttributeType → Bool → Bool
agrees_at alone None both = alone
agrees_at alone (Some a) both = both

-- each key of the right that the left lacks is optional, or the left is open
abbrev pub covered : OpenTag → Attrs → Attrs → Bool
covered o xs no_attrs = true
covered o xs (attr l t r ys) = (is_some (attr_at xs l) || (not r || is_open o)) && covered o xs ys

-- the schema type stands first
abbrev mutual
  pub consistent : Ty → Ty → Bool
  consistent (primitive p) t = consistent_primitive p t
  consistent any_set any_set = true
  consistent any_set (set_of t) = true
  consistent (set_of s) (set_of t) = consistent s t
  consistent (record_of xs o) (record_of ys p) = agree p xs ys && covered o xs ys
  consistent (entity ns) t = has_one_type ns t
  consistent (extension m) (extension n) = text_eq m n
  consistent s t = false

  -- each key of the left is on the right with a consistent type, or is optional, or the right is open
  pub agree : OpenTag → Attrs → Attrs → Bool
  agree p no_attrs ys = true
  agree p (attr k s q xs) ys =
      agrees_at (not q || is_open p) (attr_at ys k) (consistent s (type_of (attr_at ys k))) && agree p xs ys
