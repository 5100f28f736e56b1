-- A node of a table with all below it.
use Rattle.std.specs.Prelude.{◌≡◌, ℕ, ◌<◌, Bool, true, false, ◌||◌, List, [], ◌∷◌, Option, option_map, find, is_some, refl}
use Rattle.std.specs.List.{AllByRecursion}
use Rattle.std.specs.Coded.{Coded, coded_ℕ, coded_list, coded×, code_by}
use Rattle.access_tries.specs.declared.edge.EntityRoot.{EntityRoot}
use Rattle.access_tries.specs.contracts.edge.EntityRoot.{the_row as root_row}
use Rattle.access_tries.specs.declared.edge.Edge.{Edge}
use Rattle.access_tries.specs.declared.edge.Edge.TheVariants.{Field, Root}
use Rattle.access_tries.specs.declared.table.Link.{Link}
use Rattle.access_tries.specs.Edges.{Address, edge_eq}
use Rattle.access_tries.specs.Table.{Table, coded_table, at_path, has_mark, leads, is_marked, links_at}

pub record ViewData : Type 0 where
  pub nodes : Table
  pub number : ℕ

abbrev pub coded_view : Coded ViewData
coded_view = code_by (Table × ℕ) (coded× coded_table coded_ℕ)
    (λ v. (v.nodes, v.number)) (λ p. record { nodes = p.0; number = p.1 }) (λ _. refl)

-- the first node of a table
abbrev pub whole : Table → ViewData
whole t = record { nodes = t; number = 0 }

-- whether the node leads somewhere along the edges, and to a marked node
abbrev pub view_leads : ViewData → Address → Bool
view_leads v es = at_path is_some v.nodes v.number es

abbrev pub view_marks : ViewData → Address → Bool
view_marks v es = at_path has_mark v.nodes v.number es

-- the edge leads nowhere from the first
abbrev pub LeadsNowhere : Edge → ViewData → Type 0
LeadsNowhere e v = (es : Address) → view_leads v (e ∷ es) ≡ false

-- the edge leads from the first to the second, which is there, later in the same table
pub record LeadsTo (e : Edge) (v w : ViewData) : Type 0 where
  pub there : view_leads w [] ≡ true
  pub table : w.nodes ≡ v.nodes
  pub later : v.number < w.number
  pub paths : (es : Address) → view_leads v (e ∷ es) ≡ view_leads w es
  pub marks : (es : Address) → view_marks v (e ∷ es) ≡ view_marks w es

-- the number of the node to which the edge leads, where there is such a link
abbrev pub number_at : Edge → List Link → Option ℕ
number_at e ls = option_map (λ l. l.number) (find (λ l. edge_eq l.edge e) ls)

-- the fields among links, and the roots, each with the node behind it
abbrev pub with_child : Edge → ViewData → List (List ℕ × ViewData) → List (List ℕ × ViewData)
with_child (Field n) v cs = (n, v) ∷ cs
with_child e v cs = cs

abbrev pub with_root : Edge → ViewData → List (EntityRoot × ViewData) → List (EntityRoot × ViewData)
with_root (Root r) v rs = (r, v) ∷ rs
with_root e v rs = rs

abbrev pub children_in : Table → List Link → List (List ℕ × ViewData)
children_in ns [] = []
children_in ns (l ∷ ls) = with_child l.edge (record { nodes = ns; number = l.number }) (children_in ns ls)

abbrev pub roots_in : Table → List Link → List (EntityRoot × ViewData)
roots_in ns [] = []
roots_in ns (l ∷ ls) = with_root l.edge (record { nodes = ns; number = l.number }) (roots_in ns ls)

-- of a node
abbrev pub children_of : ViewData → List (List ℕ × ViewData)
children_of v = children_in v.nodes (links_at v.nodes v.number)

abbrev pub roots_of : ViewData → List (EntityRoot × ViewData)
roots_of v = roots_in v.nodes (links_at v.nodes v.number)

abbrev pub coded_children : Coded (List (List ℕ × ViewData))
coded_children = coded_list (coded× (coded_list coded_ℕ) coded_view)

abbrev pub coded_roots : Coded (List (EntityRoot × ViewData))
coded_roots = coded_list (coded× root_row.coded coded_view)

-- each is where its edge leads from the node
abbrev pub AreChildren : ViewData → List (List ℕ × ViewData) → Type 0
AreChildren v = AllByRecursion (λ c. LeadsTo (Field c.0) v c.1)

abbrev pub AreRoots : ViewData → List (EntityRoot × ViewData) → Type 0
AreRoots v = AllByRecursion (λ c. LeadsTo (Root c.0) v c.1)

-- a trie with the paths and the marks of another and of the view, and no others
pub record IsWith (old : Table) (v : ViewData) (new : Table) : Type 0 where
  pub paths : (es : Address) → leads new es ≡ (leads old es || view_leads v es)
  pub marks : (es : Address) → is_marked new es ≡ (is_marked old es || view_marks v es)
