-- What a tree says is what reading comes to.
use Rattle.std.proofs.Common.{◌≡◌, ℕ, List, [], ◌∷◌, map, Bool, true, false, ◌&&◌, if◌then◌else◌, Option, Some, None, is_some, option_map, option_and_then, refl, ap}
use Rattle.std.specs.Option.{option_map_or}
use Rattle.std.specs.Str.{IsUtf8, is_utf8}
use Rattle.std.proofs.lemmas.Str.{IsUtf8-from_is_utf8, is_utf8-from_IsUtf8}
use Rattle.json.specs.Json as json
use Rattle.json.specs.Json.{Json}
use Rattle.json.specs.Value as tree
use Rattle.json.specs.Value.{value_view}
use Rattle.json.specs.declared.value.Value.{Value}
use Rattle.serde_json.specs.Data.{Data, Num, null, number, array, object, Items, item, Members, no_members, put}
use Rattle.serde_json.specs.Read.{of_json, of_items, of_members, number_of, read}
use Rattle.serde_json.specs.View.{items_of}
use Rattle.json_values.specs.Json.{json_of}
use Rattle.json_trees.specs.Trees.{data_of, items_data, members_data, in_range, items_in_range, members_in_range, tree_of, tree_view}

-- what is there, if it is
abbrev there_if : {A : Type 0} → Bool → A → Option A
there_if b x = if b then Some x else None

number_read : (o : Option Num) → option_map number o ≡ there_if (is_some o) (option_map_or number o null)
number_read None = refl
number_read (Some n) = refl

under : {A B : Type 0} (f : A → B) (b : Bool) (o : Option A) (x : A) → o ≡ there_if b x → option_map f o ≡ there_if b (f x)
under f true o x e = ap (option_map f) e
under f false o x e = ap (option_map f) e

item_read : (b c : Bool) (o : Option Data) (p : Option Items) (d : Data) (ds : Items) → o ≡ there_if b d → p ≡ there_if c ds
    → option_and_then (λ x. option_map (item x) p) o ≡ there_if (b && c) (item d ds)
item_read true true o p d ds e f = rw (e, f) refl
item_read true false o p d ds e f = rw (e, f) refl
item_read false c o p d ds e f = rw e refl

member_read : (b c : Bool) (k : List ℕ) (ms : json.Members) (found : Members) (o : Option Data) (d : Data) (all : Members) → o ≡ there_if b d → of_members ms (put k d found) ≡ there_if c all
    → option_and_then (λ x. of_members ms (put k x found)) o ≡ there_if (b && c) all
member_read true c k ms found o d all e f = rw e f
member_read false c k ms found o d all e f = rw e refl

mutual
  -- where all numbers are in range, reading comes to what the tree says, else to nothing
  pub tree_read : (j : Json) → of_json j ≡ there_if (in_range j) (data_of j)
  tree_read json.null = refl
  tree_read (json.boolean b) = refl
  tree_read (json.number s) = number_read (number_of s)
  tree_read (json.string s) = refl
  tree_read (json.array js) = under array (items_in_range js) (of_items js) (items_data js) (items_read js)
  tree_read (json.object ms) = under object (members_in_range ms) (of_members ms no_members) (members_data ms no_members) (members_read ms no_members)

  items_read : (js : json.Items) → of_items js ≡ there_if (items_in_range js) (items_data js)
  items_read json.no_items = refl
  items_read (json.item j js) = item_read (in_range j) (items_in_range js) (of_json j) (of_items js) (data_of j) (items_data js) (tree_read j) (items_read js)

  members_read : (ms : json.Members) (found : Members) → of_members ms found ≡ there_if (members_in_range ms) (members_data ms found)
  members_read json.no_members found = refl
  members_read (json.member k j ms) found = member_read (in_range j) (members_in_range ms) k ms found (of_json j) (data_of j) (members_data ms (put k (data_of j) found)) (tree_read j) (members_read ms (put k (data_of j) found))

-- the value of bytes is that of their tree
pub bytes_read : (bytes : List ℕ) (o : Option Json) → IsUtf8 bytes → o ≡ tree_of bytes → json_of bytes ≡ option_and_then (λ j. there_if (in_range j) (data_of j)) o
unfolding json_of
bytes_read bytes o text e = rw (is_utf8-from_IsUtf8 bytes text, ← e) (read_of o) where
  read_of : (p : Option Json) → option_and_then of_json p ≡ option_and_then (λ j. there_if (in_range j) (data_of j)) p
  read_of None = refl
  read_of (Some j) = tree_read j

no_text : (b : Bool) (bytes : List ℕ) → is_utf8 bytes ≡ b → (IsUtf8 bytes → ⊥) → (if b then read bytes else None) ≡ None
no_text true bytes is never = absurd (never (IsUtf8-from_is_utf8 bytes is))
no_text false bytes is never = refl

pub bytes_refused : (bytes : List ℕ) → (IsUtf8 bytes → ⊥) → json_of bytes ≡ None
unfolding json_of
bytes_refused bytes never = no_text (is_utf8 bytes) bytes refl never

-- the values of the items of a tree
pub items_said : {A : Type 0} (ts : List (Value A)) → items_data (tree.items_of (map value_view ts)) ≡ items_of (map tree_view ts)
items_said [] = refl
items_said (t ∷ ts) = ap (item (tree_view t)) (items_said ts)
