-- Requests in JSON.
use Rattle.std.specs.Prelude.{ℕ, List, [], ◌∷◌, ◌++◌, length, if◌then◌else◌, Option, Some, None, option_map, is_some, Result, Ok, Err, codes}
use Rattle.std.specs.Option.{option_map_or}
use Rattle.policy_values.specs.declared.entity_uid.EntityUID.{EntityUID}
use Rattle.policy_values.specs.Value.{Fields, fields_of}
use Rattle.entity_store.specs.declared.request.Request.{Request}
use Rattle.serde_json.specs.Data.{Data, Items, no_items, item}
use Rattle.serde_json.specs.Find.{get, as_null, as_object}
use Rattle.json_values.specs.Json.{◌>>=◌, has_only}
use Rattle.json_values.specs.Names.{uid_of}
use Rattle.json_values.specs.Values.{value_fields_of}
use Rattle.json_document.specs.declared.place.Place.{Place}
use Rattle.json_document.specs.declared.place.Place.TheVariants as place

-- an id; one that is absent or null is unknown
abbrev pub known_of : Option Data → Option (Option EntityUID)
known_of None = Some None
known_of (Some d) = if is_some (as_null d) then Some None else option_map Some (uid_of d)

-- a context; one that is absent or null is unknown
abbrev pub context_of : Option Data → Option (Option Fields)
context_of None = Some None
context_of (Some d) =
    if is_some (as_null d) then Some None
    else option_map (λ es. Some (fields_of es)) (value_fields_of d)

abbrev pub request_names : List (List ℕ)
request_names = codes "principal" ∷ codes "action" ∷ codes "resource" ∷ codes "context" ∷ []

abbrev pub entries_of : Data → Option Request
entries_of d = do
  principal ← known_of (get (codes "principal") d)
  action ← known_of (get (codes "action") d)
  resource ← known_of (get (codes "resource") d)
  context ← context_of (get (codes "context") d)
  Some (record { principal = principal; action = action; resource = resource; context = context })

-- the request of an object without other members
unfoldable pub given_request_of : Data → Option Request
given_request_of d = do
  members ← as_object d
  if has_only request_names members then entries_of d else None

-- an absent request has no entry
abbrev pub request_of : Option Data → Option Request
request_of None = Some (record { principal = None; action = None; resource = None; context = None })
request_of (Some d) = given_request_of d

-- those before, and the requests of the items; else the place of the first item that is none
abbrev pub requests_of : List Request → Items → Result (List Request) Place
requests_of before no_items = Ok before
requests_of before (item d ds) = option_map_or (λ q. requests_of (before ++ q ∷ []) ds)
    (given_request_of d) (Err (place.RequestAt (length before)))
