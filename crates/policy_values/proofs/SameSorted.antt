-- Two ascending lists with the same keys are one, and so are two lists that ascend by key and have the same value at each key.
use Rattle.std.proofs.Common.{◌≡◌, Bool, true, false, ◌||◌, cond, List, [], ◌∷◌, map, Some, None, ap, sym, ◌∙◌, refl, subst}
use Rattle.std.specs.Prelude.{T, ◌&&◌}
use Rattle.std.specs.declared.cmp.Ordering.{Ordering}
use Rattle.std.specs.declared.cmp.Ordering.TheVariants.{Less, Equal}
use Rattle.std.specs.Ordering.{is_eq, is_lt}
use Rattle.std.specs.Cmp.{IsTotalOrder}
use Rattle.std.specs.BTreeSet.{BTreeSet, IsFromIterResult}
use Rattle.std.specs.FinMap.Entries.{is_sorted, below_all, same_entries, find as found_in}
use Rattle.std.specs.List.{AllByRecursion}
use Rattle.std.specs.List.Sorted.{IsStrictlySortedBy}
use Rattle.std.proofs.lemmas.Map.Views.{tells_apart}
use Rattle.policy_values.specs.Reaches.{has}
use Rattle.policy_values.specs.Keyed.{value_at}

both : (a b : Bool) → T a → T b → T (a && b)
both true b p q = q
both false b p q = absurd p

module _ {K V : Type 0} (cmp : K → K → Ordering) (total : IsTotalOrder cmp) (exact : (x y : K) → cmp x y ≡ Equal → x ≡ y) (key : V → K) where
  -- the values under their keys
  under : List V → List (K × V)
  under [] = []
  under (v ∷ vs) = (key v, v) ∷ under vs

  values_under : (vs : List V) → map (λ e. e.1) (under vs) ≡ vs
  unfolding under
  values_under [] = refl
  values_under (v ∷ vs) = let later : map (λ e. e.1) (under vs) ≡ vs = values_under vs in λ i. v ∷ later i

  found_under : (vs : List V) (q : K) → found_in cmp q (under vs) ≡ value_at cmp key vs q
  unfolding under
  found_under [] q = refl
  found_under (v ∷ vs) q = ap (λ r. cond (is_eq (cmp q (key v))) (Some v) r) (found_under vs q)

  below_under : (k : K) (vs : List V) → AllByRecursion (λ y. cmp k y ≡ Less) (map key vs) → T (below_all cmp k (under vs))
  unfolding under
  below_under k [] all = tt
  below_under k (v ∷ vs) all = both _ _ (subst (λ o. T (is_lt o)) (sym all.0) tt) (below_under k vs all.1)

  sorted_under : (vs : List V) → IsStrictlySortedBy cmp (map key vs) → T (is_sorted cmp (under vs))
  unfolding under IsStrictlySortedBy
  sorted_under [] h = tt
  sorted_under (v ∷ vs) h = both _ _ (below_under (key v) vs h.0) (sorted_under vs h.1)

  pub same_values : (xs ys : List V) → IsStrictlySortedBy cmp (map key xs) → IsStrictlySortedBy cmp (map key ys) → ((q : K) → value_at cmp key xs q ≡ value_at cmp key ys q) → xs ≡ ys
  same_values xs ys h k same =
      sym (values_under xs)
      ∙ ap (map (λ e. e.1)) (same_entries cmp total exact (under xs) (under ys) (sorted_under xs h) (sorted_under ys k) (λ q. found_under xs q ∙ same q ∙ sym (found_under ys q)))
      ∙ values_under ys

module _ {K : Type 0} (cmp : K → K → Ordering) (total : IsTotalOrder cmp) (exact : (x y : K) → cmp x y ≡ Equal → x ≡ y) where
  itself : (xs : List K) → map (λ x. x) xs ≡ xs
  itself [] = refl
  itself (x ∷ xs) = let later : map (λ y. y) xs ≡ xs = itself xs in λ i. x ∷ later i

  -- the key that is found is the one that was looked for
  found_itself : (xs : List K) (q : K) → value_at cmp (λ x. x) xs q ≡ cond (has cmp xs q) (Some q) None
  found_itself [] q = refl
  found_itself (x ∷ xs) q = at_test (is_eq (cmp q x)) refl (found_itself xs q)
    where
      at_test : (b : Bool) → is_eq (cmp q x) ≡ b → value_at cmp (λ y. y) xs q ≡ cond (has cmp xs q) (Some q) None → cond b (Some x) (value_at cmp (λ y. y) xs q) ≡ cond (b || has cmp xs q) (Some q) None
      at_test true is later = ap Some (sym (tells_apart exact q x is))
      at_test false is later = later

  pub same_sorted : (xs ys : List K) → IsStrictlySortedBy cmp xs → IsStrictlySortedBy cmp ys → ((q : K) → has cmp xs q ≡ has cmp ys q) → xs ≡ ys
  same_sorted xs ys h k same =
      same_values cmp total exact (λ x. x) xs ys (rw (itself xs) h) (rw (itself ys) k) (λ q. found_itself xs q ∙ ap (λ b. cond b (Some q) None) (same q) ∙ sym (found_itself ys q))

  -- a set that is made of ascending keys has just these
  pub made_of_sorted : (xs : List K) (made : BTreeSet K) → IsStrictlySortedBy cmp xs → IsFromIterResult cmp xs made → made.keys ≡ xs
  made_of_sorted xs made h (members, ordered) = same_sorted made.keys xs ordered h members
