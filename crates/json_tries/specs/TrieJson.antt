-- Tries as JSON.
use Rattle.std.specs.Prelude.{ℕ, Bool, List, [], ◌∷◌, ◌++◌, codes}
use Rattle.policy_expressions.specs.Show.{variable_text}
use Rattle.serde_json.specs.Data.{Data, string, boolean, array, object, no_items, item, Members, no_members, member, put}
use Rattle.serde_json.specs.View.{items_of}
use Rattle.json_response.specs.ValueJson.{uid_data, alone}
use Rattle.access_tries.specs.declared.edge.EntityRoot.{EntityRoot}
use Rattle.access_tries.specs.declared.edge.EntityRoot.TheVariants.{Literal, Var as Variable}
use Rattle.access_tries.specs.declared.edge.Edge.{Edge}
use Rattle.access_tries.specs.declared.edge.Edge.TheVariants.{Field, AnyTag, Root}
use Rattle.access_tries.specs.Table.{Table}
use Rattle.access_tries.specs.Trees.{Branch, branch, Branches, no_branches, leading, branches_of}

-- a root: an id, or an entry of the request
abbrev pub key_data : EntityRoot → Data
key_data (Literal u) = alone (codes "literal") (uid_data u)
key_data (Variable v) = alone (codes "var") (string (variable_text v))

-- the list of a name or root and of what is read there
abbrev pub entry_data : Data → Data → Data
entry_data k d = array (item k (item d no_items))

-- a branch stands in one of three lists, by its edge: of fields, of tags, of roots
abbrev pub field_part : Edge → Data → List Data
field_part (Field n) d = entry_data (string n) d ∷ []
field_part e d = []

abbrev pub tag_part : Edge → Data → List Data
tag_part AnyTag d = d ∷ []
tag_part e d = []

abbrev pub root_part : Edge → Data → List Data
root_part (Root r) d = entry_data (key_data r) d ∷ []
root_part e d = []

-- a trie: the list of its roots
abbrev pub trie_data : List Data → Data
trie_data roots = alone (codes "trie") (array (items_of roots))

-- the list of tags stands there where it is not empty
abbrev pub with_tags : List Data → Members → Members
with_tags [] ms = ms
with_tags (t ∷ ts) ms = put (codes "tags") (array (items_of (t ∷ ts))) ms

-- a node: the trie that names the ancestors that are asked for, its fields, whether it is itself asked for,
-- and its tags
abbrev pub node_data : Bool → List Data → List Data → List Data → Data
node_data mark fields tags roots = object (with_tags tags (member (codes "ancestorsTrie") (trie_data roots)
    (member (codes "children") (array (items_of fields))
    (member (codes "isAncestor") (boolean mark) no_members))))

abbrev mutual
  pub branch_data : Branch → Data
  branch_data (branch m bs) = node_data m (fields_data bs) (tags_data bs) (roots_data bs)

  pub fields_data : Branches → List Data
  fields_data no_branches = []
  fields_data (leading e b bs) = field_part e (branch_data b) ++ fields_data bs

  pub tags_data : Branches → List Data
  tags_data no_branches = []
  tags_data (leading e b bs) = tag_part e (branch_data b) ++ tags_data bs

  pub roots_data : Branches → List Data
  roots_data no_branches = []
  roots_data (leading e b bs) = root_part e (branch_data b) ++ roots_data bs

-- a trie by its table: its roots in their order, ids before entries of the request
abbrev pub root_trie_data : Table → Data
root_trie_data t = trie_data (roots_data (branches_of t))
