-- Which manifest a JSON value says.
use Rattle.std.specs.Prelude.{ℕ, Bool, ◌&&◌, List, [], map, Option, Some, None, option_map, if◌then◌else◌, codes}
use Rattle.std.specs.Option.{option_and_then}
use Rattle.std.specs.Str.{bytes_eq}
use Rattle.std.specs.Coded.{Coded, coded_list, coded×}
use Rattle.policy_values.specs.declared.entity_uid.EntityUID.{EntityUID}
use Rattle.policy_values.specs.Repeated.{IsRepeated}
use Rattle.entity_store.specs.declared.request.RequestType.{RequestType}
use Rattle.entity_store.specs.contracts.request.RequestType.{the_row as request_type_row}
use Rattle.serde_json.specs.Data.{Data, Items, no_items, item, Members, no_members, member}
use Rattle.serde_json.specs.Find.{as_array, as_object}
use Rattle.json_values.specs.Json.{◌>>=◌, only_member, pair_of}
use Rattle.json_values.specs.Lists.{with_first}
use Rattle.json_values.specs.Names.{name_of, uid_of}
use Rattle.json_tries.specs.Places.{Place, coded_place, places_in}
use Rattle.json_tries.specs.Reading.{trie_of}

-- an entry of a manifest: a request type with the nodes of its trie, in the order of the document
abbrev pub Entry : Type 0
Entry = RequestType × List Place

abbrev pub coded_entry : Coded Entry
coded_entry = coded× request_type_row.coded (coded_list coded_place)

-- the request type of these parts, where each is there and the names are right
abbrev pub request_type_form : Bool → Option EntityUID →
    Option (List ℕ) → Option (List ℕ) → Option RequestType
request_type_form named action principal resource = do
  u ← action
  p ← principal
  r ← resource
  if named then Some (record { action = u; principal = p; resource = r }) else None

-- whether these are the names of its members
abbrev pub are_names : List ℕ → List ℕ → List ℕ → Bool
are_names k l m =
    bytes_eq k (codes "action") && (bytes_eq l (codes "principal") && bytes_eq m (codes "resource"))

-- a request type: its members stand in the order of their names
abbrev pub request_type_in : Members → Option RequestType
request_type_in no_members = None
request_type_in (member k d no_members) = None
request_type_in (member k d (member l e no_members)) = None
request_type_in (member k d (member l e (member m f no_members))) =
    request_type_form (are_names k l m) (uid_of d) (name_of e) (name_of f)
request_type_in (member k d (member l e (member m f (member n g ms)))) = None

-- the request type that a value says
abbrev pub request_type_of : Data → Option RequestType
request_type_of d = option_and_then request_type_in (as_object d)

-- the entry of a request type and of nodes, where both are there
abbrev pub entry_form : Option RequestType → Option (List Place) → Option Entry
entry_form t ps = do
  request_type ← t
  places ← ps
  Some (request_type, places)

-- an entry is a pair of a request type and a trie
abbrev pub entry_of : Data → Option Entry
entry_of d = option_and_then (λ p. entry_form (request_type_of p.0) (option_map places_in (trie_of p.1)))
    (option_and_then pair_of (as_array d))

-- the entries that items say, where each says one
abbrev pub entries_of_items : Items → Option (List Entry)
entries_of_items no_items = Some []
entries_of_items (item d ds) = with_first (entry_of d) (entries_of_items ds)

-- those of the member under this key
abbrev pub entries_form : List ℕ → Data → Option (List Entry)
entries_form k d =
    if bytes_eq k (codes "perAction") then option_and_then entries_of_items (as_array d) else None

-- the object with one member, the list of entries
abbrev pub entries_of : Data → Option (List Entry)
entries_of d = option_and_then (λ m. entries_form m.0 m.1) (option_and_then only_member (as_object d))

-- the request types of the entries
abbrev pub types_of : List Entry → List RequestType
types_of es = map (λ e. e.0) es

-- no request type stands twice
abbrev pub AreDistinct : List Entry → Type 0
AreDistinct es = (t : RequestType) → ¬ (IsRepeated (types_of es) t)
