-- A table of nodes, in which each node leads on to later ones.
use Rattle.std.specs.Prelude.{◌≡◌, ℕ, ◌<◌, ◌≤◌, Bool, false, ◌&&◌, List, [], ◌∷◌, length, slice_get, Option, is_some, refl}
use Rattle.std.specs.List.{list_any, AllByRecursion}
use Rattle.std.specs.Option.{option_map_or}
use Rattle.std.specs.Coded.{Coded, coded_list, coded_bool, coded×, code_by}
use Rattle.std.specs.declared.cmp.Ordering.TheVariants.{Less}
use Rattle.access_tries.specs.declared.table.Link.{Link}
use Rattle.access_tries.specs.contracts.table.Link.{the_row as link_row}
use Rattle.access_tries.specs.Edges.{Address, edge_cmp, edge_eq}

-- a node: where it leads, and whether it is marked
pub record NodeData : Type 0 where
  pub links : List Link
  pub mark : Bool

abbrev pub coded_node : Coded NodeData
coded_node = code_by (List Link × Bool) (coded× (coded_list link_row.coded) coded_bool)
    (λ n. (n.links, n.mark)) (λ p. record { links = p.0; mark = p.1 }) (λ _. refl)

abbrev pub Table : Type 0
Table = List NodeData

abbrev pub coded_table : Coded Table
coded_table = coded_list coded_node

-- the links of the node with this number; none where there is no such node
abbrev pub links_at : Table → ℕ → List Link
links_at ns i = option_map_or (λ n. n.links) (slice_get ns i) []

abbrev pub has_mark : Option NodeData → Bool
has_mark o = option_map_or (λ n. n.mark) o false

-- whether the edges lead from the node to one that passes the test
abbrev pub at_path : (Option NodeData → Bool) → Table → ℕ → Address → Bool
at_path f ns i [] = f (slice_get ns i)
at_path f ns i (e ∷ es) = list_any (λ l. edge_eq l.edge e && at_path f ns l.number es) (links_at ns i)

-- whether the first node leads somewhere along the edges, and to a marked node
abbrev pub leads : Table → Address → Bool
leads ns a = at_path is_some ns 0 a

abbrev pub is_marked : Table → Address → Bool
is_marked ns a = at_path has_mark ns 0 a

-- the edge of the link comes before that of the other
abbrev pub IsLinkBefore : Link → Link → Type 0
IsLinkBefore l m = edge_cmp l.edge m.edge ≡ Less

-- edges ascend, so that each stands once
abbrev pub Ascend : List Link → Type 0
Ascend [] = Unit {0}
Ascend (l ∷ ls) = AllByRecursion (IsLinkBefore l) ls × Ascend ls

-- in each node from this one on the numbers are greater than its own, and numbers of nodes
pub record IsClosed (k : ℕ) (ns : Table) : Type 0 where
  pub each : (i : ℕ) → k ≤ i → AllByRecursion (λ l. (i < l.number) × (l.number < length ns)) (links_at ns i)

-- in each node from this one on edges ascend
pub record IsTableOrdered (k : ℕ) (ns : Table) : Type 0 where
  pub each : (i : ℕ) → k ≤ i → Ascend (links_at ns i)

-- what each table of tries keeps
pub record IsTable (ns : Table) : Type 0 where
  pub closed : IsClosed 0 ns
  pub ordered : IsTableOrdered 0 ns
