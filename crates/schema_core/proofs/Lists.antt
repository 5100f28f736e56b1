-- Lists that grow by what is left.
use Rattle.std.proofs.Common.{◌≡◌, ℕ, ◌+◌, ◌<◌, List, [], ◌∷◌, ◌++◌, length, map, take, get_or, refl, sym, ◌∙◌, ap, append_assoc}
use Rattle.std.specs.declared.cmp.Ordering.{Ordering}
use Rattle.std.specs.Cmp.{IsTotalOrder}
use Rattle.std.specs.List.{AllByRecursion, flat_map}
use Rattle.std.specs.List.Sorted.{IsStrictlySortedBy}
use Rattle.std.specs.Map.{keys_of, values_of}
use Rattle.std.specs.BTreeSet.{BTreeSet}
use Rattle.std.proofs.lemmas.Cmp.{eq_by_cmp_equiv}
use Rattle.std.proofs.lemmas.List.Elements.{recursion_from_All}
use Rattle.std.proofs.lemmas.Map.Keys.{IsDistinct-from_sorted}
use Rattle.std.proofs.lemmas.Map.Views.{All-values_from_lookup}
use Rattle.std.proofs.lemmas.List.{take_more, flat_map_more, map-append}
use Rattle.schema_core.specs.Listing.{HasAscending}
use Rattle.plain_lemmas.proofs.Lists.{append_empty}

module _ {E T U : Type 0} (g : T → U) where
  -- the next one has moved over, under two maps
  pub moved : (f : E → T) (items items' total : List U) (left rest : List E) (e : E) → items ++ map g (map f left) ≡ total → left ≡ e ∷ rest → items' ≡ items ++ g (f e) ∷ [] → items' ++ map g (map f rest) ≡ total
  moved f items items' total left rest e t is next = rw next (append_assoc items (g (f e) ∷ []) (map g (map f rest)) ∙ rw is at t)

  pub moved_list : (f : E → List T) (items items' total : List U) (left rest : List E) (e : E) → items ++ map g (flat_map f left) ≡ total → left ≡ e ∷ rest → items' ≡ items ++ map g (f e) → items' ++ map g (flat_map f rest) ≡ total
  moved_list f items items' total left rest e t is next =
      rw next (append_assoc items (map g (f e)) (map g (flat_map f rest)) ∙ ap (λ ys. items ++ ys) (sym (map-append g (f e) (flat_map f rest))) ∙ rw is at t)

module _ {E T : Type 0} (f : E → List T) where
  pub flat_mapped_next : (xs : List E) (i : ℕ) (x : E) (ys ys' : List T) → i < length xs → x ≡ get_or xs i x → ys ≡ flat_map f (take i xs) → ys' ≡ ys ++ f x → ys' ≡ flat_map f (take (i + 1) xs)
  flat_mapped_next xs i x ys ys' lt item t next =
      let cut : take (i + 1) xs ≡ take i xs ++ x ∷ [] = take_more xs i x lt ∙ rw (← item) refl in
      rw (next, cut, t) (flat_map_more f [] (take i xs) x)

-- the sets of a map, one by one
pub sets_ascend : {A K : Type 0} {cmp_a : A → A → Ordering} (o : IsTotalOrder cmp_a) (cmp : K → K → Ordering) (es : List (A × BTreeSet K)) → IsStrictlySortedBy cmp_a (keys_of es) → HasAscending cmp_a cmp es → AllByRecursion (λ s. IsStrictlySortedBy cmp s.keys) (values_of es)
sets_ascend {cmp_a = cmp_a} o cmp es sorted all =
    recursion_from_All (λ s. IsStrictlySortedBy cmp s.keys) (values_of es) (All-values_from_lookup (eq_by_cmp_equiv o) (λ s. IsStrictlySortedBy cmp s.keys) es (IsDistinct-from_sorted cmp_a (keys_of es) sorted) all)
