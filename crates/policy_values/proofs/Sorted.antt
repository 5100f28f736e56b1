-- A list in order without repeats is that to which its items are added one by one.
use Rattle.std.proofs.Common.{◌≡◌, Bool, true, false, ◌||◌, List, [], ◌∷◌, ap, sym, ◌∙◌, refl, subst, Contains}
use Rattle.std.specs.declared.cmp.Ordering.{Ordering}
use Rattle.std.specs.declared.cmp.Ordering.TheVariants.{Less, Equal, Greater}
use Rattle.std.specs.Ordering.{is_eq, eq_by_cmp, match_ordering, ordering_reverse}
use Rattle.std.specs.Bool.{Decides}
use Rattle.std.specs.BTreeSet.{insert_key}
use Rattle.std.specs.Cmp.{IsTotalOrder, Equal-is, both_ways}
use Rattle.std.specs.List.Sorted.{IsPermutation, IsSorted, IsStrictlySortedBy}
use Rattle.std.proofs.lemmas.Cmp.{eq_by_cmp_equiv, tied_itself}
use Rattle.std.specs.List.{AllByRecursion, dedup}
use Rattle.std.proofs.lemmas.List.Kept.{Contains-dedup, Contains-from_dedup, IsStrictlySortedBy-dedup}
use Rattle.std.proofs.lemmas.List.Sorted.{Contains-permutation, IsPermutation-sym}
use Rattle.std.proofs.lemmas.Map.Made.{is_member-Decides}
use Rattle.policy_values.specs.Ascending.{ascending_of}
use Rattle.policy_values.specs.Reaches.{has}
use Rattle.policy_values.proofs.SameSorted.{same_sorted}

or_twice : (a b : Bool) → (a || b) ≡ (a || (a || b))
or_twice true b = refl
or_twice false b = refl

or_exchange : (a b c : Bool) → (a || (b || c)) ≡ (b || (a || c))
or_exchange true true c = refl
or_exchange true false c = refl
or_exchange false b c = refl

module _ {K : Type 0} (cmp : K → K → Ordering) (total : IsTotalOrder cmp) (exact : (x y : K) → cmp x y ≡ Equal → x ≡ y) where
  -- what an added key makes of the keys that there are
  has_added : (ks : List K) (k q : K) → has cmp (insert_key cmp ks k) q ≡ (is_eq (cmp q k) || has cmp ks q)
  has_added [] k q = refl
  has_added (l ∷ ks) k q = by (cmp k l) refl (has_added ks k q)
    where
      by : (o : Ordering) → cmp k l ≡ o → has cmp (insert_key cmp ks k) q ≡ (is_eq (cmp q k) || has cmp ks q)
          → has cmp (match_ordering o (k ∷ l ∷ ks) (l ∷ ks) (l ∷ insert_key cmp ks k)) q ≡ (is_eq (cmp q k) || has cmp (l ∷ ks) q)
      by Less is more = refl
      by Equal is more = or_twice (is_eq (cmp q l)) (has cmp ks q) ∙ ap (λ x. is_eq (cmp q x) || has cmp (l ∷ ks) q) (sym (exact k l is))
      by Greater is more = ap (λ b. is_eq (cmp q l) || b) more ∙ or_exchange (is_eq (cmp q l)) (is_eq (cmp q k)) (has cmp ks q)

  has_all : (xs : List K) (q : K) → has cmp (ascending_of cmp xs) q ≡ has cmp xs q
  has_all [] q = refl
  has_all (x ∷ xs) q = has_added (ascending_of cmp xs) x q ∙ ap (λ b. is_eq (cmp q x) || b) (has_all xs q)

  above_all : (k l : K) (ks : List K) → cmp k l ≡ Less → AllByRecursion (λ y. cmp l y ≡ Less) ks → AllByRecursion (λ y. cmp k y ≡ Less) ks
  above_all k l [] first rest = tt
  above_all k l (y ∷ ks) first rest = (total.trans k l y first rest.0, above_all k l ks first rest.1)

  below_added : (l k : K) (ks : List K) → cmp l k ≡ Less → AllByRecursion (λ y. cmp l y ≡ Less) ks → AllByRecursion (λ y. cmp l y ≡ Less) (insert_key cmp ks k)
  below_added l k [] first rest = (first, tt)
  below_added l k (y ∷ ks) first rest = by (cmp k y) (below_added l k ks first rest.1)
    where
      by : (o : Ordering) → AllByRecursion (λ z. cmp l z ≡ Less) (insert_key cmp ks k) → AllByRecursion (λ z. cmp l z ≡ Less) (match_ordering o (k ∷ y ∷ ks) (y ∷ ks) (y ∷ insert_key cmp ks k))
      by Less more = (first, rest)
      by Equal more = rest
      by Greater more = (rest.0, more)

  sorted_added : (ks : List K) (k : K) → IsStrictlySortedBy cmp ks → IsStrictlySortedBy cmp (insert_key cmp ks k)
  unfolding IsStrictlySortedBy
  sorted_added [] k h = (tt, tt)
  sorted_added (l ∷ ks) k h = by (cmp k l) refl (sorted_added ks k h.1)
    where
      by : (o : Ordering) → cmp k l ≡ o → IsStrictlySortedBy cmp (insert_key cmp ks k) → IsStrictlySortedBy cmp (match_ordering o (k ∷ l ∷ ks) (l ∷ ks) (l ∷ insert_key cmp ks k))
      by Less is more = ((is, above_all k l ks is h.0), h)
      by Equal is more = h
      by Greater is more = (below_added l k ks (total.antisymm l k ∙ ap ordering_reverse is) h.0, more)

  sorted_all : (xs : List K) → IsStrictlySortedBy cmp (ascending_of cmp xs)
  unfolding IsStrictlySortedBy
  sorted_all [] = tt
  sorted_all (x ∷ xs) = sorted_added (ascending_of cmp xs) x (sorted_all xs)

  same : (a b : K) → Decides (eq_by_cmp cmp a b) (a ≡ b)
  same a b = (λ t. exact a b ((Equal-is (cmp a b)).0 t), λ e. (Equal-is (cmp a b)).1 (subst (λ x. cmp a x ≡ Equal) e (tied_itself total a)))

  -- sorted, and without what equals the one before
  pub dedup_sorted : (E : K → K → Bool) → ((x y : K) → E x y ≡ eq_by_cmp cmp x y) → (xs ys : List K) → IsPermutation xs ys → IsSorted cmp ys → dedup E ys ≡ ascending_of cmp xs
  dedup_sorted E ties xs ys moved sorted = same_sorted cmp total exact (dedup E ys) (ascending_of cmp xs) (IsStrictlySortedBy-dedup total ties ys sorted) (sorted_all xs)
      (λ q. both_ways (has cmp (dedup E ys) q) (has cmp xs q)
      (λ t. (is_member-Decides same xs q).1 (Contains-permutation ys xs q (IsPermutation-sym xs ys moved) (Contains-from_dedup E ys q ((is_member-Decides same (dedup E ys) q).0 t))))
      (λ t. (is_member-Decides same (dedup E ys) q).1 (kept q (Contains-permutation xs ys q moved ((is_member-Decides same xs q).0 t))))
      ∙ sym (has_all xs q))
    where
      is_same : E ≡ eq_by_cmp cmp
      is_same = λ i x y. ties x y i

      kept : (q : K) → Contains ys q → Contains (dedup E ys) q
      kept q there = subst (λ (F : K → K → Bool). Contains (dedup F ys) q) (sym is_same) (Contains-dedup (eq_by_cmp_equiv total) (λ x y t. exact x y ((Equal-is (cmp x y)).0 t)) ys q there)
