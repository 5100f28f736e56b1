-- What types name, and which of them a schema may hold.
use Rattle.std.specs.Prelude.{ℕ, Bool, true, false, ◌||◌, ◌&&◌, not, List, codes, is_some, bytes_eq}
use Rattle.std.specs.Ordering.{is_eq}
use Rattle.policy_values.specs.Uid.{text_cmp}
use Rattle.schema_types.specs.Names.{has_name, only_name}
use Rattle.schema_types.specs.Ty.{Ty, never, true_type, false_type, primitive, any_set, set_of, record_of, any_entity, entity, action, extension, Attrs, no_attrs, attr, is_open}

-- whether the test passes for the type, where it has no parts, or for a type without parts inside it
abbrev mutual
  pub some_inside : (Ty → Bool) → Ty → Bool
  some_inside p (set_of t) = some_inside p t
  some_inside p (record_of xs o) = some_within p xs
  some_inside p (action n xs) = some_within p xs
  some_inside p t = p t

  pub some_within : (Ty → Bool) → Attrs → Bool
  some_within p no_attrs = false
  some_within p (attr k t q xs) = some_inside p t || some_within p xs

-- whether the type is of the entities of that type, perhaps among those of others
abbrev pub is_of_entity : List ℕ → Ty → Bool
is_of_entity y (entity ns) = has_name ns y
is_of_entity y t = false

-- whether it is that extension type
abbrev pub is_of_extension : List ℕ → Ty → Bool
is_of_extension n (extension m) = is_eq (text_cmp n m)
is_of_extension n t = false

-- whether the attributes name the entity type, the extension type
abbrev pub attrs_name : Attrs → List ℕ → Bool
attrs_name xs y = some_within (is_of_entity y) xs

abbrev pub attrs_extend : Attrs → List ℕ → Bool
attrs_extend xs n = some_within (is_of_extension n) xs

-- the names of extension types
abbrev pub is_known_extension : List ℕ → Bool
is_known_extension n =
    ((bytes_eq n (codes "decimal") || bytes_eq n (codes "ipaddr")) || bytes_eq n (codes "datetime")) ||
    bytes_eq n (codes "duration")

-- whether a schema may hold the type: a primitive or an extension type, the entities of one type, and sets
-- and closed records of such
abbrev mutual
  pub is_held : Ty → Bool
  is_held never = false
  is_held true_type = false
  is_held false_type = false
  is_held (primitive p) = true
  is_held any_set = false
  is_held (set_of t) = is_held t
  is_held (record_of xs o) = not (is_open o) && are_held xs
  is_held any_entity = false
  is_held (entity ns) = is_some (only_name ns)
  is_held (action n xs) = false
  is_held (extension n) = true

  pub are_held : Attrs → Bool
  are_held no_attrs = true
  are_held (attr k t q xs) = is_held t && are_held xs
