-- A sample as JSON, with its members in the order of the text, and the value that it says.
use Rattle.std.proofs.Common.{ℕ, List, [], ◌∷◌, Option, Some, None, decimal}
use Rattle.std.specs.Prelude.{codes}
use Rattle.json.specs.Json as json
use Rattle.serde_json.specs.Data as value
use Rattle.serde_json.specs.Read.{of_json}
use Rattle.document_laws.proofs.Drawn.{Drawn}

abbrev items : List json.Json → json.Items
items [] = json.no_items
items (j ∷ js) = json.item j (items js)

abbrev members : List (List ℕ × json.Json) → json.Members
members [] = json.no_members
members (m ∷ ms) = json.member m.0 m.1 (members ms)

abbrev list : List json.Json → json.Json
list js = json.array (items js)

abbrev record_of : List (List ℕ × json.Json) → json.Json
record_of ms = json.object (members ms)

abbrev pair : List ℕ → List ℕ → json.Json
pair a b = list (json.string a ∷ json.string b ∷ [])

-- an object with this one member
abbrev alone : List ℕ → json.Json → json.Json
alone name j = record_of ((name, j) ∷ [])

-- a user, by the digits of its numbers
abbrev pub user_json : List ℕ → List ℕ → List ℕ → List ℕ → json.Json
user_json i level manager group =
    record_of ((codes "id", pair (codes "User") (117 ∷ i)) ∷
    (codes "attrs", record_of ((codes "level", json.number level) ∷ (codes "manager", alone (codes "id") (pair (codes "User") (117 ∷ manager))) ∷ [])) ∷
    (codes "parents", list (pair (codes "Group") (103 ∷ group) ∷ [])) ∷ [])

abbrev pub json_of_user : Drawn → json.Json
json_of_user u = user_json (decimal u.number) (decimal u.level) (decimal u.manager) (decimal u.group)

abbrev pub users_json : List Drawn → json.Items
users_json [] = json.no_items
users_json (u ∷ us) = json.item (json_of_user u) (users_json us)

abbrev pub schema_json : json.Json
schema_json =
    record_of ((
      codes "entityTypes",
      record_of (
          (codes "Group", record_of []) ∷ (
            codes "User",
            record_of (
                (codes "memberOf", list (json.string (codes "Group") ∷ [])) ∷
                (codes "attributes", record_of ((codes "level", json.string (codes "Long")) ∷ (codes "manager", alone (codes "entity") (json.string (codes "User"))) ∷ [])) ∷ []),
          ) ∷ []),
    ) ∷ (
      codes "actions",
      list (record_of (
          (codes "id", pair (codes "Action") (codes "view")) ∷
          (codes "principals", list (json.string (codes "User") ∷ [])) ∷
          (codes "resources", list (json.string (codes "User") ∷ [])) ∷ []) ∷ []),
    ) ∷ [])

abbrev variable : List ℕ → json.Json
variable name = alone (codes "var") (json.string name)

abbrev pub policies_json : json.Json
policies_json = list (
    record_of ((codes "id", json.string (codes "p0")) ∷ (codes "effect", json.string (codes "permit")) ∷ (
      codes "body",
      list (alone (codes "when") (alone (codes "<=") (list (
          alone (codes "get") (list (variable (codes "principal") ∷ json.string (codes "manager") ∷ json.string (codes "level") ∷ [])) ∷
          alone (codes "get") (list (variable (codes "resource") ∷ json.string (codes "level") ∷ [])) ∷ []))) ∷ []),
    ) ∷ []) ∷
    record_of ((codes "id", json.string (codes "p1")) ∷ (codes "effect", json.string (codes "forbid")) ∷
    (codes "principal", alone (codes "in") (pair (codes "Group") (codes "g0"))) ∷ []) ∷ [])

-- the digits are those of the resource's number
abbrev pub request_json : List ℕ → json.Json
request_json other =
    record_of ((codes "principal", pair (codes "User") (codes "u0")) ∷ (codes "action", pair (codes "Action") (codes "view")) ∷
    (codes "resource", pair (codes "User") (117 ∷ other)) ∷ (codes "context", record_of []) ∷ [])

abbrev pub sample_json : List ℕ → List Drawn → json.Json
sample_json other us =
    record_of ((codes "schema", schema_json) ∷ (codes "policies", policies_json) ∷ (codes "request", request_json other) ∷
    (codes "entities", json.array (users_json us)) ∷ [])

-- ---- the values, whose members ascend

-- what was read; null, where nothing was
abbrev pub value_in : Option value.Data → value.Data
value_in None = value.null
value_in (Some d) = d

-- the items, where the value is an array
abbrev items_in : value.Data → value.Items
items_in (value.array ds) = ds
items_in d = value.no_items

abbrev pub policies_items : value.Items
policies_items = items_in (value_in (of_json policies_json))

abbrev pair_data : List ℕ → List ℕ → value.Data
pair_data a b = value.array (value.item (value.string a) (value.item (value.string b) value.no_items))

abbrev attributes_data : ℕ → List ℕ → value.Data
attributes_data level manager =
    value.object (value.member (codes "level") (value.number (value.unsigned level))
    (value.member (codes "manager") (value.object (value.member (codes "id") (pair_data (codes "User") (117 ∷ manager)) value.no_members)) value.no_members))

abbrev pub user_data : Drawn → value.Data
user_data u =
    value.object (value.member (codes "attrs") (attributes_data u.level (decimal u.manager))
    (value.member (codes "id") (pair_data (codes "User") (117 ∷ decimal u.number))
    (value.member (codes "parents") (value.array (value.item (pair_data (codes "Group") (103 ∷ decimal u.group)) value.no_items)) value.no_members)))

abbrev pub users_data : List Drawn → value.Items
users_data [] = value.no_items
users_data (u ∷ us) = value.item (user_data u) (users_data us)

abbrev pub sample_data : List ℕ → List Drawn → value.Data
sample_data other us =
    value.object (value.member (codes "entities") (value.array (users_data us))
    (value.member (codes "policies") (value_in (of_json policies_json))
    (value.member (codes "request") (value_in (of_json (request_json other)))
    (value.member (codes "schema") (value_in (of_json schema_json)) value.no_members))))
