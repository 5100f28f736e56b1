-- Entities in JSON.
use Rattle.std.specs.Prelude.{ℕ, List, [], ◌∷◌, ◌++◌, length, if◌then◌else◌, Option, Some, None, option_and_then, Result, Ok, Err, codes, ◌+◌}
use Rattle.std.specs.Option.{option_map_or}
use Rattle.std.specs.Ordering.{is_eq}
use Rattle.policy_values.specs.declared.entity_uid.EntityUID.{EntityUID}
use Rattle.policy_values.specs.Uid.{uid_cmp}
use Rattle.policy_values.specs.Value.{fields_of}
use Rattle.entity_store.specs.Store.{StoredEntity}
use Rattle.serde_json.specs.Data.{Data, Items, no_items, item}
use Rattle.serde_json.specs.Find.{get, as_object}
use Rattle.json_values.specs.Json.{◌>>=◌, has_only}
use Rattle.json_values.specs.Names.{uid_of, uid_set_of}
use Rattle.json_values.specs.Values.{given_fields_of}
use Rattle.json_document.specs.declared.place.Place.{Place}
use Rattle.json_document.specs.declared.place.Place.TheVariants as place

-- the members that an entity may have
abbrev pub entity_names : List (List ℕ)
entity_names = codes "id" ∷ codes "attrs" ∷ codes "tags" ∷ codes "parents" ∷ []

-- an entity as it is given: its parents stand for its ancestors
unfoldable pub given_entity_of : Data → Option StoredEntity
given_entity_of d = do
  uid ← option_and_then uid_of (get (codes "id") d)
  parents ← uid_set_of (get (codes "parents") d)
  attrs ← given_fields_of (get (codes "attrs") d)
  tags ← given_fields_of (get (codes "tags") d)
  Some (record { uid = uid; attrs = fields_of attrs; ancestors = parents; tags = fields_of tags })

-- the entity of an object without other members
abbrev pub entity_of : Data → Option StoredEntity
entity_of d = do
  members ← as_object d
  if has_only entity_names members then given_entity_of d else None

-- those before, and the entities of the items; else the place of the first item that is none
abbrev pub entities_of : List StoredEntity → Items → Result (List StoredEntity) Place
entities_of before no_items = Ok before
entities_of before (item d ds) =
    option_map_or (λ e. entities_of (before ++ e ∷ []) ds) (entity_of d) (Err (place.Entity (length before)))

-- the index of the first id that is u, counted from n; the length where none is
abbrev pub index_from : ℕ → EntityUID → List EntityUID → ℕ
index_from n u [] = n
index_from n u (v ∷ vs) = if is_eq (uid_cmp u v) then n else index_from (n + 1) u vs
