-- Types as plain data.
use Rattle.std.specs.Prelude.{ℕ, ◌+◌, max, Bool, true, false, List, [], ◌∷◌}
use Rattle.schema_types.specs.declared.kinds.Primitive.{Primitive}
use Rattle.schema_types.specs.declared.kinds.OpenTag.{OpenTag}
use Rattle.schema_types.specs.declared.kinds.OpenTag.TheVariants.{OpenAttributes, ClosedAttributes}

mutual
  -- no value; true alone, false alone; a primitive type; sets of anything, of one type; a record; any entity,
  -- an entity of one of some types, an action of a type, which has attributes; an extension type
  pub data Ty : Type 0 where
    never : Ty
    true_type : Ty
    false_type : Ty
    primitive : Primitive → Ty
    any_set : Ty
    set_of : Ty → Ty
    record_of : Attrs → OpenTag → Ty
    any_entity : Ty
    entity : List (List ℕ) → Ty
    action : List ℕ → Attrs → Ty
    extension : List ℕ → Ty

  -- keys, each with its type and whether it is required
  pub data Attrs : Type 0 where
    no_attrs : Attrs
    attr : List ℕ → Ty → Bool → Attrs → Attrs

-- how deep a type nests
abbrev mutual
  pub size_of : Ty → ℕ
  size_of (set_of t) = size_of t + 1
  size_of (record_of xs o) = size_of_attrs xs + 1
  size_of (action n xs) = size_of_attrs xs + 1
  size_of t = 1

  pub size_of_attrs : Attrs → ℕ
  size_of_attrs no_attrs = 0
  size_of_attrs (attr k t q xs) = max (size_of t + 1) (size_of_attrs xs)

-- the keys
abbrev pub keys_in : Attrs → List (List ℕ)
keys_in no_attrs = []
keys_in (attr k t q xs) = k ∷ keys_in xs

abbrev pub is_open : OpenTag → Bool
is_open OpenAttributes = true
is_open ClosedAttributes = false
