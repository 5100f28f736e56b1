-- What a JSON text says, by its tree.
use Rattle.std.specs.Prelude.{◌≡◌, ℕ, List, map, Bool, true, false, ◌&&◌, Option, is_some, option_and_then}
use Rattle.std.specs.Option.{option_map_or}
use Rattle.std.specs.Borrow.{Bor}
use Rattle.std.specs.Str.{bytes_eq}
use Rattle.json.specs.Json as json
use Rattle.json.specs.Json.{Json}
use Rattle.json.specs.Lex.{tokens}
use Rattle.json.specs.Value.{value_view, members_view}
use Rattle.json.specs.declared.value.Value.{Value}
use Rattle.serde_json.specs.Data.{Data, null, boolean, number, string, array, object, Items, no_items, item, Members, no_members, put}
use Rattle.serde_json.specs.Read.{number_of, max_depth}
use Rattle.serde_json.specs.Find.{get_member}
use Rattle.serde_json.specs.View.{items_of}

-- the tree of a text, where it has the form of JSON
abbrev pub tree_of : List ℕ → Option Json
tree_of text = option_and_then (λ p. json.if_last p.0 p.1) (json.value max_depth (tokens text))

-- the value that a tree says; null stands for a number that is out of range
abbrev mutual
  pub data_of : Json → Data
  data_of json.null = null
  data_of (json.boolean b) = boolean b
  data_of (json.number s) = option_map_or number (number_of s) null
  data_of (json.string s) = string s
  data_of (json.array js) = array (items_data js)
  data_of (json.object ms) = object (members_data ms no_members)

  -- the values of the items
  pub items_data : json.Items → Items
  items_data json.no_items = no_items
  items_data (json.item j js) = item (data_of j) (items_data js)

  -- the members found before, and those of the tree; the last of a name stays
  pub members_data : json.Members → Members → Members
  members_data json.no_members found = found
  members_data (json.member k j ms) found = members_data ms (put k (data_of j) found)

-- whether all numbers of a tree are in range
abbrev mutual
  pub in_range : Json → Bool
  in_range json.null = true
  in_range (json.boolean b) = true
  in_range (json.number s) = is_some (number_of s)
  in_range (json.string s) = true
  in_range (json.array js) = items_in_range js
  in_range (json.object ms) = members_in_range ms

  pub items_in_range : json.Items → Bool
  items_in_range json.no_items = true
  items_in_range (json.item j js) = in_range j && items_in_range js

  pub members_in_range : json.Members → Bool
  members_in_range json.no_members = true
  members_in_range (json.member k j ms) = in_range j && members_in_range ms

-- the value that a tree, as Rust holds it, says
abbrev pub tree_view : {A : Type 0} → Value A → Data
tree_view t = data_of (value_view t)

-- the values that trees say
abbrev pub trees_view : {A : Type 0} → List (Value A) → Items
trees_view ts = items_of (map tree_view ts)

-- the members that those of a tree say; the last of a name stays
abbrev pub named_view : {A : Type 0} → List (Bor (List ℕ) × Value A) → Members
named_view ms = members_data (members_view ms) no_members

-- the members of all other names stay
abbrev pub KeepsOthers : List ℕ → Members → Members → Type 0
KeepsOthers name old new =
    (other : List ℕ) → bytes_eq name other ≡ false → get_member other new ≡ get_member other old
