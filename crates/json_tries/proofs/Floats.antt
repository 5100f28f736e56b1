-- No trie is written with a float.
use Rattle.std.proofs.Common.{◌≡◌, Bool, List, [], ◌∷◌, false, refl}
use Rattle.serde_json.specs.Data.{Data}
use Rattle.serde_json.specs.View.{items_of}
use Rattle.serde_json.specs.Written.{has_float, items_have_float}
use Rattle.policy_expressions.specs.declared.kinds.Var.TheVariants.{Principal, Action, Resource, Context}
use Rattle.access_tries.specs.declared.edge.EntityRoot.{EntityRoot}
use Rattle.access_tries.specs.declared.edge.EntityRoot.TheVariants.{Literal, Var as Variable}
use Rattle.access_tries.specs.declared.edge.Edge.{Edge}
use Rattle.access_tries.specs.declared.edge.Edge.TheVariants.{Field, AnyTag, Root}
use Rattle.access_tries.specs.Table.{Table}
use Rattle.access_tries.specs.Trees.{Branch, branch, Branches, no_branches, leading, branches_of}
use Rattle.json_tries.specs.TrieJson.{key_data, trie_data, node_data, branch_data, fields_data, tags_data, roots_data, root_trie_data}

key_has_none : (r : EntityRoot) → has_float (key_data r) ≡ false
key_has_none (Literal u) = refl
key_has_none (Variable Principal) = refl
key_has_none (Variable Action) = refl
key_has_none (Variable Resource) = refl
key_has_none (Variable Context) = refl

trie_has_none : (rs : List Data) → items_have_float (items_of rs) ≡ false → has_float (trie_data rs) ≡ false
trie_has_none rs h = rw h refl

node_has_none : (m : Bool) (fs ts rs : List Data) → items_have_float (items_of fs) ≡ false → items_have_float (items_of ts) ≡ false → items_have_float (items_of rs) ≡ false → has_float (node_data m fs ts rs) ≡ false
node_has_none m fs [] rs f t r = rw r (rw f refl)
node_has_none m fs (d ∷ ts) rs f t r = rw r (rw f (rw t refl))

mutual
  branch_has_none : (b : Branch) → has_float (branch_data b) ≡ false
  branch_has_none (branch m bs) = node_has_none m (fields_data bs) (tags_data bs) (roots_data bs) (fields_have_none bs) (tags_have_none bs) (roots_have_none bs)

  fields_have_none : (bs : Branches) → items_have_float (items_of (fields_data bs)) ≡ false
  fields_have_none no_branches = refl
  fields_have_none (leading (Field n) b bs) = rw (branch_has_none b) (fields_have_none bs)
  fields_have_none (leading AnyTag b bs) = fields_have_none bs
  fields_have_none (leading (Root r) b bs) = fields_have_none bs

  tags_have_none : (bs : Branches) → items_have_float (items_of (tags_data bs)) ≡ false
  tags_have_none no_branches = refl
  tags_have_none (leading (Field n) b bs) = tags_have_none bs
  tags_have_none (leading AnyTag b bs) = rw (branch_has_none b) (tags_have_none bs)
  tags_have_none (leading (Root r) b bs) = tags_have_none bs

  roots_have_none : (bs : Branches) → items_have_float (items_of (roots_data bs)) ≡ false
  roots_have_none no_branches = refl
  roots_have_none (leading (Field n) b bs) = roots_have_none bs
  roots_have_none (leading AnyTag b bs) = roots_have_none bs
  roots_have_none (leading (Root r) b bs) = rw (key_has_none r) (rw (branch_has_none b) (roots_have_none bs))

pub root_trie_has_none : (t : Table) → has_float (root_trie_data t) ≡ false
root_trie_has_none t = trie_has_none (roots_data (branches_of t)) (roots_have_none (branches_of t))
