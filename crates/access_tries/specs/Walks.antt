-- Walks through a table while it grows.
use Rattle.std.specs.Prelude.{◌≡◌, ℕ, ◌<◌, ◌+◌, ◌⊎◌, ◌&&◌, Bool, List, ◌∷◌, length, drop, slice_get, Option, map}
use Rattle.std.specs.List.{list_any, AllByRecursion}
use Rattle.std.specs.declared.cmp.Ordering.TheVariants.{Less}
use Rattle.std.specs.declared.vec.Vec.{Vec}
use Rattle.std.specs.declared.alloc.Global.{Global}
use Rattle.access_tries.specs.declared.edge.Edge.{Edge}
use Rattle.access_tries.specs.declared.table.Link.{Link}
use Rattle.access_tries.specs.Edges.{Address, edge_cmp, edge_eq}
use Rattle.access_tries.specs.Table.{Table, NodeData, at_path, leads, is_marked}
use Rattle.access_tries.specs.Paths.{is_prefix_of, is_same}

-- the first nodes are as before
abbrev pub Keeps : ℕ → Table → Table → Type 0
Keeps n old new = (k : ℕ) → k < n → slice_get new k ≡ slice_get old k

-- the next link is this one, or the list stays where it is and there is nothing
abbrev pub TakesLink : List Link → ℕ → ℕ → Edge → ℕ → ℕ → Type 0
TakesLink ls p none e number next =
    ((next ≡ p) × (number ≡ none))
    ⊎ ((p < length ls) × (next ≡ p + 1) × (drop p ls ≡ record { edge = e; number = number } ∷ drop next ls))

-- the edge comes before those of all these links
abbrev pub IsBeforeAll : Edge → List Link → Type 0
IsBeforeAll e ls = AllByRecursion (λ l. edge_cmp e l.edge ≡ Less) ls

-- a path that begins with this edge, in one of these links
abbrev pub any_link : (Option NodeData → Bool) → Table → Edge → Address → List Link → Bool
any_link f ns e es ls = list_any (λ l. edge_eq l.edge e && at_path f ns l.number es) ls

-- the addresses that vectors of edges are
abbrev pub addresses_in : List (Vec Edge Global) → List Address
addresses_in vs = map (λ v. v.items) vs

-- the same prefixes
abbrev pub HaveSamePrefixes : List Address → List Address → Type 0
HaveSamePrefixes xs ys = (es : Address) → list_any (is_prefix_of es) xs ≡ list_any (is_prefix_of es) ys

-- a trie with exactly these addresses and their prefixes, marked at all their ends or nowhere
pub record IsOf (addresses : List Address) (mark : Bool) (t : Table) : Type 0 where
  pub paths : (es : Address) → leads t es ≡ list_any (is_prefix_of es) addresses
  pub marks : (es : Address) → is_marked t es ≡ (mark && list_any (is_same es) addresses)
