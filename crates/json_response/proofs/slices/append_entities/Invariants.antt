use Rattle.std.proofs.Common.{◌≡◌, ◌++◌, map, string_bytes}
use Rattle.serde_json.specs.Data.{array}
use Rattle.serde_json.specs.View.{items_of}
use Rattle.serde_json.specs.Written.{compact_text, items_text}
use Rattle.json_response.specs.SliceJson.{entity_data}
use Rattle.json_response.proofs.slices.append_entities.Given as goal

-- the text, and that of the entities that are left
abbrev pub invariant-loop-entity : goal.invariant-loop-entity
invariant-loop-entity l =
    string_bytes l.text ++ items_text l.is_later (items_of (map entity_data l.entity-iterator))
    ≡ string_bytes l.fn.text ++ compact_text (array (items_of (map entity_data l.entities)))
