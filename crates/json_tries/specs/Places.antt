-- The nodes of a tree by their addresses.
use Rattle.std.specs.Prelude.{◌≡◌, ◌&&◌, Bool, List, [], ◌∷◌, ◌++◌, map}
use Rattle.std.specs.List.{list_any}
use Rattle.std.specs.Coded.{Coded, coded_list, coded_bool, coded×}
use Rattle.access_tries.specs.declared.edge.Edge.{Edge}
use Rattle.access_tries.specs.contracts.edge.Edge.{the_row as edge_row}
use Rattle.access_tries.specs.Edges.{Address}
use Rattle.access_tries.specs.Table.{Table, leads, is_marked}
use Rattle.access_tries.specs.Paths.{is_prefix_of, is_same}
use Rattle.access_tries.specs.Trees.{Branch, branch, Branches, no_branches, leading}

-- where a node stands, and whether it is marked
abbrev pub Place : Type 0
Place = Address × Bool

abbrev pub coded_place : Coded Place
coded_place = coded× (coded_list edge_row.coded) coded_bool

-- the same, seen from one edge before
abbrev pub behind : Edge → Place → Place
behind e p = (e ∷ p.0, p.1)

-- a node and all below it, each before those below it, branch by branch
abbrev mutual
  pub places_of : Branch → List Place
  places_of (branch m bs) = ([], m) ∷ places_in bs

  pub places_in : Branches → List Place
  places_in no_branches = []
  places_in (leading e b bs) = map (behind e) (places_of b) ++ places_in bs

-- the trie of these places: it leads to them and on the way to them, and is marked at those that are marked
pub record IsOfPlaces (ps : List Place) (t : Table) : Type 0 where
  pub paths : (es : Address) → leads t es ≡ list_any (λ p. is_prefix_of es p.0) ps
  pub marks : (es : Address) → is_marked t es ≡ list_any (λ p. p.1 && is_same es p.0) ps
