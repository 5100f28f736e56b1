-- A schema in JSON.
use Rattle.std.specs.Prelude.{ℕ, List, [], ◌∷◌, if◌then◌else◌, Option, Some, None, option_map, option_and_then, codes}
use Rattle.schema_types.specs.Ty.{Ty, Attrs, no_attrs}
use Rattle.schema_types.specs.TyView.{attrs_of}
use Rattle.schema_core.specs.Entries.{TypeEntry, ActionEntry, Declarations}
use Rattle.schema_core.specs.Kinds.{standard, enumerated, firsts}
use Rattle.serde_json.specs.Data.{Data, Items, no_items, item, Members, no_members, member}
use Rattle.serde_json.specs.Find.{get, as_array, as_object, as_str}
use Rattle.json_values.specs.Json.{◌>>=◌, has_only, list_of}
use Rattle.json_values.specs.Lists.{with_first}
use Rattle.json_values.specs.Names.{name_of_text, uid_of, names_of, uids_of}
use Rattle.json_schema.specs.Types.{type_of, attributes_of}

-- each item is a text, in the list's order
abbrev pub texts_of_items : Items → Option (List (List ℕ))
texts_of_items no_items = Some []
texts_of_items (item d ds) = with_first (as_str d) (texts_of_items ds)

-- absent attributes are none
abbrev pub attributes_at : Option Data → Option Attrs
attributes_at None = Some no_attrs
attributes_at (Some d) = option_map attrs_of (attributes_of d)

-- the type of tags; where it is absent, there are none
abbrev pub tags_at : Option Data → Option (Option Ty)
tags_at None = Some None
tags_at (Some d) = option_map Some (type_of d)

abbrev pub enumerated_of : List ℕ → Data → Option TypeEntry
enumerated_of name listed = do
  items ← as_array listed
  choices ← texts_of_items items
  Some (record { name = name; member_of = []; kind = enumerated (firsts choices) })

abbrev pub standard_of : List ℕ → Data → Option TypeEntry
standard_of name d = do
  member_of ← names_of (get (codes "memberOf") d)
  attributes ← attributes_at (get (codes "attributes") d)
  tags ← tags_at (get (codes "tags") d)
  Some (record { name = name; member_of = member_of; kind = standard attributes tags })

abbrev pub standard_names : List (List ℕ)
standard_names = codes "memberOf" ∷ codes "attributes" ∷ codes "tags" ∷ []

-- an enumerated type, where ids are listed, and else a standard one
abbrev pub declared_as : List ℕ → Members → Data → Option Data → Option TypeEntry
declared_as name members d None = if has_only standard_names members then standard_of name d else None
declared_as name members d (Some listed) =
    if has_only (codes "enum" ∷ []) members then enumerated_of name listed else None

-- the type that a member of `entityTypes` declares
unfoldable pub entity_type_of : List ℕ → Data → Option TypeEntry
entity_type_of key d = do
  name ← name_of_text key
  members ← as_object d
  declared_as name members d (get (codes "enum") d)

abbrev pub entity_types_of_members : Members → Option (List TypeEntry)
entity_types_of_members no_members = Some []
entity_types_of_members (member k d ms) = with_first (entity_type_of k d) (entity_types_of_members ms)

-- absent types are none
abbrev pub entity_types_of : Option Data → Option (List TypeEntry)
entity_types_of None = Some []
entity_types_of (Some d) = option_and_then entity_types_of_members (as_object d)

abbrev pub action_names : List (List ℕ)
action_names = codes "id" ∷ codes "principals" ∷ codes "resources" ∷ codes "memberOf" ∷ codes "context" ∷ []

abbrev pub action_in : Data → Option ActionEntry
action_in d = do
  id ← option_and_then uid_of (get (codes "id") d)
  principals ← names_of (get (codes "principals") d)
  resources ← names_of (get (codes "resources") d)
  member_of ← uids_of (get (codes "memberOf") d)
  context ← attributes_at (get (codes "context") d)
  Some (record {
    id = id;
    principals = principals;
    resources = resources;
    member_of = member_of;
    context = context;
  })

-- the action that an item of `actions` declares
unfoldable pub action_of : Data → Option ActionEntry
action_of d = do
  members ← as_object d
  if has_only action_names members then action_in d else None

abbrev pub actions_of_items : Items → Option (List ActionEntry)
actions_of_items no_items = Some []
actions_of_items (item d ds) = with_first (action_of d) (actions_of_items ds)

abbrev pub declarations_of : Option Data → Option Data → Option Declarations
declarations_of types actions = do
  items ← list_of actions
  entity_types ← entity_types_of types
  actions ← actions_of_items items
  Some (record { entity_types = entity_types; actions = actions })

-- what the value declares, where it has the form of a schema
unfoldable pub schema_of : Data → Option Declarations
schema_of d = do
  members ← as_object d
  if has_only (codes "entityTypes" ∷ codes "actions" ∷ []) members
      then declarations_of (get (codes "entityTypes") d) (get (codes "actions") d)
      else None
