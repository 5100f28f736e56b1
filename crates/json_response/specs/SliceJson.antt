-- The JSON text of a decision and of the store that it needs.
use Rattle.std.specs.Prelude.{ℕ, List, ◌++◌, map, codes}
use Rattle.entity_store.specs.Store.{StoredEntity, Store}
use Rattle.policy_core.specs.Show.{error_text}
use Rattle.policy_set.specs.Response.{ResponseData}
use Rattle.policy_set.specs.declared.response.Decision.{Decision}
use Rattle.policy_set.specs.declared.response.Decision.TheVariants.{Allow, Deny}
use Rattle.policy_set.specs.declared.response.PolicyFailure.{PolicyFailure}
use Rattle.serde_json.specs.Data.{Data, string, array, object, no_members, member}
use Rattle.serde_json.specs.View.{items_of}
use Rattle.serde_json.specs.Written.{compact_text}
use Rattle.json_response.specs.ValueJson.{pair_data, uid_data, fields_data}

-- an entity: its ancestors, its attributes, its id and its tags
abbrev pub entity_data : StoredEntity → Data
entity_data e = object (member (codes "ancestors") (array (items_of (map uid_data e.ancestors)))
    (member (codes "attrs") (fields_data e.attrs)
    (member (codes "id") (uid_data e.uid)
    (member (codes "tags") (fields_data e.tags) no_members))))

abbrev pub decision_text : Decision → List ℕ
decision_text Allow = codes "Allow"
decision_text Deny = codes "Deny"

-- a policy that has no value: its id, and why
abbrev pub failure_data : PolicyFailure → Data
failure_data f = pair_data f.id (error_text f.error)

-- the decision, the policies that have no value, and those that led to the decision
abbrev pub response_data : ResponseData → Data
response_data r = object (member (codes "decision") (string (decision_text r.decision))
    (member (codes "errors") (array (items_of (map failure_data r.errors)))
    (member (codes "reasons") (array (items_of (map string r.reasons))) no_members)))

-- its JSON without spaces, and a newline
unfoldable pub response_text : ResponseData → List ℕ
response_text r = compact_text (response_data r) ++ codes "\n"

-- the same with the entities
abbrev pub slice_data : ResponseData → Store → Data
slice_data r s = object (member (codes "decision") (string (decision_text r.decision))
    (member (codes "errors") (array (items_of (map failure_data r.errors)))
    (member (codes "reasons") (array (items_of (map string r.reasons)))
    (member (codes "slice") (array (items_of (map entity_data s))) no_members))))

-- its JSON without spaces, and a newline
unfoldable pub slice_text : ResponseData → Store → List ℕ
slice_text r s = compact_text (slice_data r s) ++ codes "\n"
