-- What is written of entities into rows.
use Rattle.std.specs.Prelude.{ℕ, List, map, codes}
use Rattle.serde_json.specs.Data.{Data, array, object, no_members, member}
use Rattle.serde_json.specs.View.{items_of}
use Rattle.serde_json.specs.Written.{compact_text}
use Rattle.json_response.specs.ValueJson.{uid_data, fields_data}
use Rattle.entity_store.specs.Store.{StoredEntity}

-- an entity with its parents: its attributes, its id, its parents and its tags
abbrev pub row_data : StoredEntity → Data
row_data e = object (member (codes "attrs") (fields_data e.attrs)
    (member (codes "id") (uid_data e.uid)
    (member (codes "parents") (array (items_of (map uid_data e.ancestors)))
    (member (codes "tags") (fields_data e.tags) no_members))))

-- its JSON without spaces
unfoldable pub row_text : StoredEntity → List ℕ
row_text e = compact_text (row_data e)
