-- Which trie a JSON value says.
use Rattle.std.specs.Prelude.{ℕ, Bool, true, not, ◌&&◌, List, [], ◌∷◌, Option, Some, None, option_map, if◌then◌else◌, codes}
use Rattle.std.specs.List.{list_any}
use Rattle.std.specs.Option.{option_and_then}
use Rattle.std.specs.Str.{bytes_eq}
use Rattle.policy_expressions.specs.declared.kinds.Var.{Var}
use Rattle.policy_expressions.specs.declared.kinds.Var.TheVariants.{Principal, Action, Resource, Context}
use Rattle.serde_json.specs.Data as json
use Rattle.serde_json.specs.Data.{Data, null, boolean, number, array, object, Items, no_items, item, Members, no_members, member}
use Rattle.serde_json.specs.Find.{as_bool, as_str, as_array, as_object}
use Rattle.json_values.specs.Json.{◌>>=◌, only_member, pair_of}
use Rattle.json_values.specs.Lists.{with_first}
use Rattle.json_values.specs.Names.{uid_of}
use Rattle.access_tries.specs.declared.edge.EntityRoot.{EntityRoot}
use Rattle.access_tries.specs.declared.edge.EntityRoot.TheVariants.{Literal, Var as Variable}
use Rattle.access_tries.specs.declared.edge.Edge.{Edge}
use Rattle.access_tries.specs.declared.edge.Edge.TheVariants.{Field, AnyTag, Root}
use Rattle.access_tries.specs.Edges.{edge_eq}
use Rattle.access_tries.specs.Trees.{Branch, branch, Branches, no_branches, leading}
use Rattle.json_tries.specs.declared.keys.Listing.{Listing}
use Rattle.json_tries.specs.declared.keys.Listing.TheVariants.{Fields, Roots}

abbrev pub variable_of : List ℕ → Option Var
variable_of t =
    if bytes_eq t (codes "principal") then Some Principal else
    (if bytes_eq t (codes "action") then Some Action else
    (if bytes_eq t (codes "resource") then Some Resource else
    (if bytes_eq t (codes "context") then Some Context else None)))

-- the object with this one member: a root
abbrev pub root_form : List ℕ → Data → Option EntityRoot
root_form k d =
    if bytes_eq k (codes "literal") then option_map Literal (uid_of d) else
    (if bytes_eq k (codes "var") then option_map Variable (option_and_then variable_of (as_str d)) else None)

abbrev pub root_of : Data → Option EntityRoot
root_of d = option_and_then (λ m. root_form m.0 m.1) (option_and_then only_member (as_object d))

-- the edge of an entry: in a list of fields the name, in a list of roots the root
abbrev pub edge_of : Listing → Data → Option Edge
edge_of Fields d = option_map Field (as_str d)
edge_of Roots d = option_map Root (root_of d)

-- that of an item of the list, which is a pair
abbrev pub edge_of_item : Listing → Data → Option Edge
edge_of_item l d = option_and_then (λ p. edge_of l p.0) (option_and_then pair_of (as_array d))

abbrev pub edges_of_items : Listing → Items → Option (List Edge)
edges_of_items l no_items = Some []
edges_of_items l (item d ds) = with_first (edge_of_item l d) (edges_of_items l ds)

-- no edge stands twice
abbrev pub are_distinct : List Edge → Bool
are_distinct [] = true
are_distinct (e ∷ es) = not (list_any (λ f. edge_eq f e) es) && are_distinct es

abbrev pub if_distinct : List Edge → Option (List Edge)
if_distinct es = if are_distinct es then Some es else None

abbrev pub distinct_edges : Listing → Items → Option (List Edge)
distinct_edges l ds = option_and_then if_distinct (edges_of_items l ds)

-- each edge with its node
abbrev pub led_to : List Edge → List Branch → Branches
led_to [] bs = no_branches
led_to (e ∷ es) [] = no_branches
led_to (e ∷ es) (b ∷ bs) = leading e b (led_to es bs)

abbrev pub entries_form : Option (List Edge) → Option (List Branch) → Option Branches
entries_form es bs = do
  edges ← es
  nodes ← bs
  Some (led_to edges nodes)

-- the ones, and then the others
abbrev pub joined : Branches → Branches → Branches
joined no_branches cs = cs
joined (leading e b bs) cs = leading e b (joined bs cs)

-- a node of these parts: fields come first, then tags, then roots
abbrev pub node_form : Bool → Option Bool → Option Branches →
    Option Branches → Option Branches → Option Branch
node_form named mark fields tags roots = do
  m ← mark
  fs ← fields
  ts ← tags
  rs ← roots
  if named then Some (branch m (joined fs (joined ts rs))) else None

abbrev pub are_names : List ℕ → List ℕ → List ℕ → Bool
are_names k l m =
    bytes_eq k (codes "ancestorsTrie") && (bytes_eq l (codes "children") && bytes_eq m (codes "isAncestor"))

abbrev mutual
  -- a node: its members stand in the order of their names
  pub branch_of : Data → Option Branch
  branch_of null = None
  branch_of (boolean b) = None
  branch_of (number n) = None
  branch_of (json.string t) = None
  branch_of (array ds) = None
  branch_of (object ms) = node_of ms

  pub node_of : Members → Option Branch
  node_of no_members = None
  node_of (member k d no_members) = None
  node_of (member k d (member l e no_members)) = None
  node_of (member k d (member l e (member m f no_members))) =
      node_form (are_names k l m) (as_bool f) (listed_in Fields e) (Some no_branches) (trie_of d)
  node_of (member k d (member l e (member m f (member n g no_members)))) = node_form
      (are_names k l m && bytes_eq n (codes "tags")) (as_bool f) (listed_in Fields e) (tags_of g) (trie_of d)
  node_of (member k d (member l e (member m f (member n g (member o h ms))))) = None

  -- a trie: the list of its roots
  pub trie_of : Data → Option Branches
  trie_of null = None
  trie_of (boolean b) = None
  trie_of (number n) = None
  trie_of (json.string t) = None
  trie_of (array ds) = None
  trie_of (object ms) = trie_of_members ms

  pub trie_of_members : Members → Option Branches
  trie_of_members no_members = None
  trie_of_members (member k d no_members) = if bytes_eq k (codes "trie") then listed_in Roots d else None
  trie_of_members (member k d (member l e ms)) = None

  -- a list of pairs: no name, no root stands twice
  pub listed_in : Listing → Data → Option Branches
  listed_in l null = None
  listed_in l (boolean b) = None
  listed_in l (number n) = None
  listed_in l (json.string t) = None
  listed_in l (array ds) = entries_form (distinct_edges l ds) (seconds_of ds)
  listed_in l (object ms) = None

  pub seconds_of : Items → Option (List Branch)
  seconds_of no_items = Some []
  seconds_of (item d ds) = with_first (second_of d) (seconds_of ds)

  pub second_of : Data → Option Branch
  second_of null = None
  second_of (boolean b) = None
  second_of (number n) = None
  second_of (json.string t) = None
  second_of (array ds) = second_in ds
  second_of (object ms) = None

  pub second_in : Items → Option Branch
  second_in no_items = None
  second_in (item d no_items) = None
  second_in (item d (item e no_items)) = branch_of e
  second_in (item d (item e (item f ds))) = None

  -- a list of one node or none
  pub tags_of : Data → Option Branches
  tags_of null = None
  tags_of (boolean b) = None
  tags_of (number n) = None
  tags_of (json.string t) = None
  tags_of (array ds) = tags_in ds
  tags_of (object ms) = None

  pub tags_in : Items → Option Branches
  tags_in no_items = Some no_branches
  tags_in (item d no_items) = option_map (λ b. leading AnyTag b no_branches) (branch_of d)
  tags_in (item d (item e ds)) = None
