-- Names and ids of entities in JSON.
use Rattle.std.specs.Prelude.{◌↔◌, IsTrue, ℕ, List, [], ◌∷◌, ◌++◌, length, slice_index, Bool, ◌&&◌, ◌||◌, ◌==◌, not, nat_le, nat_lt, if◌then◌else◌, Option, Some, None, option_map, option_and_then, codes}
use Rattle.std.specs.BTreeSet.{insert_key}
use Rattle.std.specs.List.{list_all}
use Rattle.std.specs.Str.{bytes_eq}
use Rattle.policy_values.specs.Name.{IsName}
use Rattle.policy_values.specs.Uid.{uid_cmp}
use Rattle.policy_values.specs.declared.entity_uid.EntityUID.{EntityUID}
use Rattle.serde_json.specs.Data.{Data, Items, no_items, item}
use Rattle.serde_json.specs.Find.{as_str, as_array}
use Rattle.json_values.specs.Json.{◌>>=◌}

-- a letter or `_`
abbrev pub is_head : ℕ → Bool
is_head c = (nat_le 97 c && nat_le c 122) || ((nat_le 65 c && nat_le c 90) || (c == 95))

-- a letter, a digit or `_`
abbrev pub is_tail : ℕ → Bool
is_tail c = is_head c || (nat_le 48 c && nat_le c 57)

-- one component of a name
abbrev pub is_component : List ℕ → Bool
is_component cs = nat_lt 0 (length cs) && (is_head (slice_index cs 0) &&
    (list_all is_tail cs && not (bytes_eq cs (codes "__cedar"))))

-- between double colons stand components alone, where `word` stands before the first one
unfoldable pub is_name_after : List ℕ → List ℕ → Bool
is_name_after word [] = is_component word
is_name_after word (c ∷ []) = is_component (word ++ c ∷ [])
is_name_after word (c ∷ d ∷ rest) =
    if c == 58 && d == 58 then is_component word && is_name_after [] rest
    else is_name_after (word ++ c ∷ []) (d ∷ rest)

-- components joined by double colons
unfoldable pub is_name : List ℕ → Bool
is_name text = is_name_after [] text

-- the test says the names
abbrev pub SaysNames : Type 0
SaysNames = (text : List ℕ) → IsTrue (is_name text) ↔ IsName text

-- the text, where it is a name
abbrev pub name_of_text : List ℕ → Option (List ℕ)
name_of_text text = if is_name text then Some text else None

abbrev pub name_of : Data → Option (List ℕ)
name_of d = option_and_then name_of_text (as_str d)

abbrev pub uid_of_parts : Option (List ℕ) → Option (List ℕ) → Option EntityUID
uid_of_parts name eid = do
  entity_type ← name
  eid ← eid
  Some (record { entity_type = entity_type; eid = eid })

abbrev pub uid_of_items : Items → Option EntityUID
uid_of_items no_items = None
uid_of_items (item t no_items) = None
uid_of_items (item t (item e no_items)) = uid_of_parts (name_of t) (as_str e)
uid_of_items (item t (item e (item d ds))) = None

-- the id that a pair of a name and a text is
abbrev pub uid_of : Data → Option EntityUID
uid_of d = option_and_then uid_of_items (as_array d)

-- each item is one, in the list's order
abbrev pub names_of_items : Items → Option (List (List ℕ))
names_of_items no_items = Some []
names_of_items (item d ds) = option_and_then (λ n. option_map (λ ns. n ∷ ns) (names_of_items ds)) (name_of d)

abbrev pub uids_of_items : Items → Option (List EntityUID)
uids_of_items no_items = Some []
uids_of_items (item d ds) = option_and_then (λ u. option_map (λ us. u ∷ us) (uids_of_items ds)) (uid_of d)

-- an absent list is empty
abbrev pub names_of : Option Data → Option (List (List ℕ))
names_of None = Some []
names_of (Some d) = option_and_then names_of_items (as_array d)

abbrev pub uids_of : Option Data → Option (List EntityUID)
uids_of None = Some []
uids_of (Some d) = option_and_then uids_of_items (as_array d)

-- the set with the ids of the items, each of which is one
abbrev pub with_uids : List EntityUID → Items → Option (List EntityUID)
with_uids set no_items = Some set
with_uids set (item d ds) = option_and_then (λ u. with_uids (insert_key uid_cmp set u) ds) (uid_of d)

-- the set of the ids of a list; an absent list is empty
abbrev pub uid_set_of : Option Data → Option (List EntityUID)
uid_set_of None = Some []
uid_set_of (Some d) = option_and_then (with_uids []) (as_array d)
