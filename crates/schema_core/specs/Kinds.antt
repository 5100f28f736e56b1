-- What an entity type is.
use Rattle.std.specs.Prelude.{ℕ, Bool, true, false, ◌||◌, ◌&&◌, not, List, [], ◌∷◌, Option, Some, None, filter}
use Rattle.std.specs.Ordering.{is_eq}
use Rattle.policy_values.specs.Uid.{text_cmp}
use Rattle.schema_types.specs.Ty.{Ty, Attrs, no_attrs}
use Rattle.schema_core.specs.Inside.{some_inside, some_within, is_of_entity, is_of_extension, is_held, are_held}

-- standard, with attributes and perhaps tags of a type; or enumerated, with the ids that it lists, in their
-- declared order
pub data Kind : Type 0 where
  standard : Attrs → Option Ty → Kind
  enumerated : List (List ℕ) → Kind

-- the items of a list, each at its first place alone
abbrev pub firsts : List (List ℕ) → List (List ℕ)
firsts [] = []
firsts (x ∷ xs) = x ∷ filter (λ y. not (is_eq (text_cmp x y))) (firsts xs)

-- the attributes of its entities; those of an enumerated type have none
abbrev pub attributes_in : Kind → Attrs
attributes_in (standard xs t) = xs
attributes_in (enumerated ids) = no_attrs

-- the type of its entities' tags, where they may have tags
abbrev pub tags_in : Kind → Option Ty
tags_in (standard xs t) = t
tags_in (enumerated ids) = None

abbrev pub is_enum : Kind → Bool
is_enum (standard xs t) = false
is_enum (enumerated ids) = true

-- whether it is enumerated and lists no id
abbrev pub is_empty_enum : Kind → Bool
is_empty_enum (standard xs t) = false
is_empty_enum (enumerated []) = true
is_empty_enum (enumerated (i ∷ is)) = false

-- whether the test passes for a type in its attributes or of its tags
abbrev pub some_of : (Ty → Bool) → Kind → Bool
some_of p (standard xs None) = some_within p xs
some_of p (standard xs (Some t)) = some_within p xs || some_inside p t
some_of p (enumerated ids) = false

-- whether the entity type is named in its attributes or tags; the same of extension types
abbrev pub kind_names : Kind → List ℕ → Bool
kind_names k y = some_of (is_of_entity y) k

abbrev pub kind_extends : Kind → List ℕ → Bool
kind_extends k n = some_of (is_of_extension n) k

-- whether a schema may hold the types of its attributes and tags
abbrev pub is_held_kind : Kind → Bool
is_held_kind (standard xs None) = are_held xs
is_held_kind (standard xs (Some t)) = are_held xs && is_held t
is_held_kind (enumerated ids) = true
