-- The schema type of a type, where it has one.
use Rattle.std.specs.Prelude.{◌≡◌, ℕ, Bool, List, [], ◌∷◌, Option, Some, None, option_map}
use Rattle.schema_types.specs.Names.{only_name}
use Rattle.schema_types.specs.declared.kinds.Primitive.TheVariants.{Bool as BoolType}
use Rattle.schema_types.specs.declared.schema_type.SchemaTypeError.{SchemaTypeError}
use Rattle.schema_types.specs.declared.schema_type.SchemaTypeError.TheVariants.{NotRepresentable, OutOfMemory}
use Rattle.schema_types.specs.Ty.{Ty, never, true_type, false_type, primitive, any_set, set_of, record_of, any_entity, entity, action, extension, Attrs, no_attrs, attr}

abbrev pub plain_first : List ℕ → Bool → Option Ty → Option Attrs → Option Attrs
plain_first k q None rest = None
plain_first k q (Some t) rest = option_map (attr k t q) rest

abbrev mutual
  -- none for no value, for any entity and for unions; a truth value's type is that of booleans, an action is
  -- an entity
  pub plain : Ty → Option Ty
  plain never = None
  plain true_type = Some (primitive BoolType)
  plain false_type = Some (primitive BoolType)
  plain (primitive p) = Some (primitive p)
  plain any_set = Some any_set
  plain (set_of t) = option_map set_of (plain t)
  plain (record_of xs o) = option_map (λ ys. record_of ys o) (plain_attrs xs)
  plain any_entity = None
  plain (entity ns) = option_map (λ n. entity (n ∷ [])) (only_name ns)
  plain (action n xs) = Some (entity (n ∷ []))
  plain (extension n) = Some (extension n)

  pub plain_attrs : Attrs → Option Attrs
  plain_attrs no_attrs = Some no_attrs
  plain_attrs (attr k t q xs) = plain_first k q (plain t) (plain_attrs xs)

-- refused where there is none; lack of memory is free
abbrev pub IsPlainError : Option Ty → SchemaTypeError → Type 0
IsPlainError o NotRepresentable = o ≡ None
IsPlainError o OutOfMemory = Unit {0}
