-- Access paths, the paths of a trie, and the union of two.
use Rattle.std.specs.Prelude.{◌≡◌, Bool, true, false, ◌||◌, ◌&&◌, List, [], ◌∷◌, ◌++◌, map, refl}
use Rattle.std.specs.List.{list_any}
use Rattle.std.specs.Coded.{Coded, coded_list, coded×, code_by}
use Rattle.std.specs.Cmp.Lexicographic.{slice_cmp}
use Rattle.std.specs.declared.cmp.Ordering.{Ordering}
use Rattle.access_tries.specs.declared.edge.EntityRoot.{EntityRoot}
use Rattle.access_tries.specs.contracts.edge.EntityRoot.{the_row as root_row}
use Rattle.access_tries.specs.declared.edge.Step.{Step}
use Rattle.access_tries.specs.declared.edge.Step.TheVariants as step
use Rattle.access_tries.specs.contracts.edge.Step.{the_row as step_row}
use Rattle.access_tries.specs.declared.edge.Edge.{Edge}
use Rattle.access_tries.specs.declared.edge.Edge.TheVariants.{Field, AnyTag, Root}
use Rattle.access_tries.specs.Edges.{Address, edge_cmp, edge_eq}
use Rattle.access_tries.specs.Table.{Table, leads, is_marked}

-- a path: where it begins, and the steps from there
pub record AccessPath : Type 0 where
  pub root : EntityRoot
  pub steps : List Step

abbrev pub coded_path : Coded AccessPath
coded_path = code_by (EntityRoot × List Step) (coded× root_row.coded (coded_list step_row.coded))
    (λ p. (p.root, p.steps)) (λ q. record { root = q.0; steps = q.1 }) (λ _. refl)

abbrev pub edge_of : Step → Edge
edge_of (step.Field n) = Field n
edge_of step.AnyTag = AnyTag

-- the edges along a path, and along a second one behind it: what is named by the second is asked of the first
abbrev pub address_of : AccessPath → Address
address_of p = Root p.root ∷ map edge_of p.steps

abbrev pub demand_of : AccessPath × AccessPath → Address
demand_of d = address_of d.0 ++ address_of d.1

-- the order of paths, edge by edge
abbrev pub path_cmp : AccessPath → AccessPath → Ordering
path_cmp p q = slice_cmp edge_cmp (address_of p) (address_of q)

-- whether the trie has the path
abbrev pub has_path : Table → AccessPath → Bool
has_path t p = leads t (address_of p)

-- whether it asks at the first path for the ancestors that the second names
abbrev pub asks : Table → AccessPath → AccessPath → Bool
asks t p r = is_marked t (demand_of (p, r))

-- tries with the same paths and the same marks
pub record IsSame (a b : Table) : Type 0 where
  pub paths : (es : Address) → leads a es ≡ leads b es
  pub marks : (es : Address) → is_marked a es ≡ is_marked b es

-- a trie with the paths and the marks of two, and no others
pub record IsUnion (a b t : Table) : Type 0 where
  pub paths : (es : Address) → leads t es ≡ (leads a es || leads b es)
  pub marks : (es : Address) → is_marked t es ≡ (is_marked a es || is_marked b es)

-- the edges are a prefix of others
abbrev pub is_prefix_of : Address → Address → Bool
is_prefix_of [] fs = true
is_prefix_of (e ∷ es) [] = false
is_prefix_of (e ∷ es) (f ∷ fs) = edge_eq f e && is_prefix_of es fs

-- the edges are these others
abbrev pub is_same : Address → Address → Bool
is_same [] [] = true
is_same (e ∷ es) (f ∷ fs) = edge_eq f e && is_same es fs
is_same es fs = false

-- exactly these addresses and their prefixes, marked exactly at the ends of the demands
pub record IsLeastOf (reads demands : List Address) (t : Table) : Type 0 where
  pub paths : (es : Address) → leads t es ≡ (list_any (is_prefix_of es) reads || list_any (is_prefix_of es) demands)
  pub marks : (es : Address) → is_marked t es ≡ list_any (is_same es) demands

-- exactly what is read and what is asked for
abbrev pub IsLeast : List AccessPath → List (AccessPath × AccessPath) → Table → Type 0
IsLeast reads demands t = IsLeastOf (map address_of reads) (map demand_of demands) t
