-- The trie of the places of a tree leads where the tree does.
use Rattle.std.specs.Prelude.{◌≡◌, true, ◌∷◌}
use Rattle.access_tries.specs.declared.edge.Edge.{Edge}
use Rattle.access_tries.specs.Edges.{Address}
use Rattle.access_tries.specs.Table.{Table, leads, is_marked}
use Rattle.access_tries.specs.Trees.{Branches, some_passes}
use Rattle.json_tries.specs.Places.{places_in, IsOfPlaces}

pub record PlacesLead : Type 0 where
  pub paths : (bs : Branches) (t : Table) → IsOfPlaces (places_in bs) t →
      (e : Edge) (es : Address) → leads t (e ∷ es) ≡ some_passes (λ m. true) bs e es
  pub marks : (bs : Branches) (t : Table) → IsOfPlaces (places_in bs) t →
      (e : Edge) (es : Address) → is_marked t (e ∷ es) ≡ some_passes (λ m. m) bs e es
