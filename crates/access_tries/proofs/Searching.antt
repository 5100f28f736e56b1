-- A binary search among the links of a node finds the one link that has the edge.
use Rattle.std.proofs.Common.{◌≡◌, ℕ, zero, suc, ◌<◌, ◌+◌, Bool, false, List, [], ◌∷◌, length, get_or, Some, None, inl, inr, refl, ap, subst, arith}
use Rattle.std.specs.Prelude.{find, option_map}
use Rattle.std.specs.declared.cmp.Ordering.TheVariants.{Less, Equal, Greater}
use Rattle.std.specs.List.{AllByRecursion}
use Rattle.std.specs.List.Sorted.{IsNonDecreasingBy, IsPartitionPoint}
use Rattle.std.specs.Ordering.{is_eq, ordering_index}
use Rattle.std.proofs.lemmas.Bool.{cases_lt}
use Rattle.std.proofs.lemmas.List.Sorted.{searchable_from_sorted}
use Rattle.access_tries.specs.declared.edge.Edge.{Edge}
use Rattle.access_tries.specs.declared.table.Link.{Link}
use Rattle.access_tries.specs.Edges.{edge_cmp, edge_eq}
use Rattle.access_tries.specs.Table.{Ascend}
use Rattle.access_tries.specs.Views.{number_at}
use Rattle.access_tries.specs.EdgeLaws.{edge_total, exact_edge}
use Rattle.access_tries.proofs.Listing.{all_found}

at_place : (P : Link → Type 0) (ls : List Link) → AllByRecursion P ls → (i : ℕ) (d : Link) → i < length ls → P (get_or ls i d)
at_place P [] all i d lt = absurd (omega arith)
at_place P (l ∷ ls) all zero d lt = all.0
at_place P (l ∷ ls) all (suc i) d lt = at_place P ls all.1 i d (omega arith)

earlier_before : (ls : List Link) → Ascend ls → (i j : ℕ) (d : Link) → i < j → j < length ls → edge_cmp (get_or ls i d).edge (get_or ls j d).edge ≡ Less
earlier_before [] up i j d lt end = absurd (omega arith)
earlier_before (l ∷ ls) up i zero d lt end = absurd (omega arith)
earlier_before (l ∷ ls) up zero (suc j) d lt end = at_place (λ m. edge_cmp l.edge m.edge ≡ Less) ls up.0 j d (omega arith)
earlier_before (l ∷ ls) up (suc i) (suc j) d lt end = earlier_before ls up.1 i j d (omega arith) (omega arith)

none_at : (p : Link → Bool) (ls : List Link) → ((i : ℕ) (d : Link) → i < length ls → p (get_or ls i d) ≡ false) → find p ls ≡ None
none_at p [] none = refl
none_at p (l ∷ ls) none = rw (none 0 l (omega arith)) (none_at p ls (λ i d lt. none (suc i) d (omega arith)))

module _ (e : Edge) (ls : List Link) where
  pub number_here : Ascend ls → (i : ℕ) (d : Link) → i < length ls → edge_cmp (get_or ls i d).edge e ≡ Equal → number_at e ls ≡ Some (get_or ls i d).number
  number_here up i d lt same = subst (λ a. number_at a ls ≡ Some (get_or ls i d).number) (exact_edge (get_or ls i d).edge e same) (at_place (λ m. number_at m.edge ls ≡ Some m.number) ls (all_found ls up) i d lt)

  pub number_nowhere : (i : ℕ) → IsPartitionPoint (λ l. edge_cmp l.edge e ≡ Less) (λ l. edge_cmp l.edge e ≡ Greater) ls i → number_at e ls ≡ None
  number_nowhere i parts = ap (option_map (λ l. l.number)) (none_at (λ l. edge_eq l.edge e) ls (λ k d lt. elim (cases_lt k i) [
    | inl below ↦ ap is_eq (parts.0 k d (omega arith) below)
    | inr above ↦ ap is_eq (parts.1 k d above lt)
  ]))

  -- along the links the answers rise
  pub answers_rise : Ascend ls → IsNonDecreasingBy (λ l. ordering_index (edge_cmp l.edge e)) ls
  answers_rise up = searchable_from_sorted edge_total (λ l. l.edge) ls e (λ k d _ lt. rw (edge_total.antisymm (get_or ls (k + 1) d).edge (get_or ls k d).edge, earlier_before ls up k (k + 1) d (omega arith) lt) refl)
