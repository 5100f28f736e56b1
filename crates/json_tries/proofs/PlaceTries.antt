-- Tries of places.
use Rattle.std.proofs.Common.{◌≡◌, Bool, true, false, ◌&&◌, ◌||◌, List, [], ◌∷◌, map, filter, refl, ap, ◌∙◌}
use Rattle.std.specs.List.{list_any}
use Rattle.access_tries.specs.Edges.{Address}
use Rattle.access_tries.specs.Table.{Table}
use Rattle.access_tries.specs.Paths.{is_prefix_of, is_same, IsUnion}
use Rattle.access_tries.specs.Walks.{IsOf}
use Rattle.json_tries.specs.Places.{Place, IsOfPlaces}

any_address : (f : Address → Bool) (ps : List Place) → list_any f (map (λ p. p.0) ps) ≡ list_any (λ p. f p.0) ps
any_address f [] = refl
any_address f (p ∷ ps) = ap (λ b. f p.0 || b) (any_address f ps)

any_marked : (f : Address → Bool) (ps : List Place) → list_any f (map (λ p. p.0) (filter (λ p. p.1) ps)) ≡ list_any (λ p. p.1 && f p.0) ps
any_marked f [] = refl
any_marked f ((a, true) ∷ ps) = ap (λ b. f a || b) (any_marked f ps)
any_marked f ((a, false) ∷ ps) = any_marked f ps

-- those that are marked are among all
none_more : (f : Address → Bool) (ps : List Place) → (list_any (λ p. f p.0) ps || list_any (λ p. p.1 && f p.0) ps) ≡ list_any (λ p. f p.0) ps
none_more f [] = refl
none_more f ((a, m) ∷ ps) = by (f a) m (none_more f ps) where
  by : (b n : Bool) → (list_any (λ p. f p.0) ps || list_any (λ p. p.1 && f p.0) ps) ≡ list_any (λ p. f p.0) ps → ((b || list_any (λ p. f p.0) ps) || ((n && b) || list_any (λ p. p.1 && f p.0) ps)) ≡ (b || list_any (λ p. f p.0) ps)
  by true n h = refl
  by false true h = h
  by false false h = h

pub of_places : (ps : List Place) (read marked t : Table) → IsOf (map (λ p. p.0) ps) false read → IsOf (map (λ p. p.0) (filter (λ p. p.1) ps)) true marked → IsUnion read marked t → IsOfPlaces ps t
of_places ps read marked t r m u = record {
  paths = λ es.
      u.paths es ∙ (λ i. r.paths es i || m.paths es i)
      ∙ (λ i. any_address (is_prefix_of es) ps i || any_marked (is_prefix_of es) ps i)
      ∙ none_more (is_prefix_of es) ps;
  marks = λ es. u.marks es ∙ (λ i. r.marks es i || m.marks es i) ∙ any_marked (is_same es) ps;
}
