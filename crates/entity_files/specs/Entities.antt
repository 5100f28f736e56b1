-- Entities in JSON, as documents have them: with their parents.
use Rattle.std.specs.Prelude.{ℕ, List, [], ◌∷◌, if◌then◌else◌, Option, Some, None, option_and_then, codes}
use Rattle.policy_values.specs.Value.{fields_of}
use Rattle.entity_store.specs.Store.{StoredEntity}
use Rattle.serde_json.specs.Data.{Data}
use Rattle.serde_json.specs.Find.{get, as_object}
use Rattle.json_values.specs.Json.{◌>>=◌, has_only, json_of}
use Rattle.json_values.specs.Names.{uid_of, uid_set_of}
use Rattle.json_values.specs.Values.{given_fields_of}

-- the members that an entity may have
abbrev pub entity_names : List (List ℕ)
entity_names = codes "id" ∷ codes "attrs" ∷ codes "tags" ∷ codes "parents" ∷
    codes "ancestors" ∷ []

-- the list of the parents, or the list of all ancestors that rows of earlier releases have; not both
abbrev pub links_in : Option Data → Option Data → Option Data
links_in (Some parents) None = Some parents
links_in None (Some ancestors) = Some ancestors
links_in None None = None
links_in (Some parents) (Some ancestors) = None

-- the entity of the members, with its parents in the place of its ancestors: `attrs` and `tags` alone may be
-- left out
unfoldable pub given_entity_of : Data → Option StoredEntity
given_entity_of d = do
  uid ← option_and_then uid_of (get (codes "id") d)
  list ← links_in (get (codes "parents") d) (get (codes "ancestors") d)
  parents ← uid_set_of (Some list)
  attrs ← given_fields_of (get (codes "attrs") d)
  tags ← given_fields_of (get (codes "tags") d)
  Some (record { uid = uid; attrs = fields_of attrs; ancestors = parents; tags = fields_of tags })

-- the entity of an object without other members
abbrev pub entity_of : Data → Option StoredEntity
entity_of d = do
  members ← as_object d
  if has_only entity_names members then given_entity_of d else None

-- the entity that a text spells in JSON
abbrev pub entity_in : List ℕ → Option StoredEntity
entity_in text = option_and_then entity_of (json_of text)
