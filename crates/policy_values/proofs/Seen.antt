-- A walk through a list that notes which keys it has met.
use Rattle.std.proofs.Common.{◌≡◌, ℕ, ◌<◌, ◌↔◌, ◌⊎◌, inl, inr, Bool, true, false, ◌||◌, cond, List, [], ◌∷◌, ◌++◌, Option, Some, None, IsSome, Contains, Bor, refl, sym, ◌∙◌, ap}
use Rattle.std.specs.declared.cmp.Ordering.{Ordering}
use Rattle.std.specs.List.{list_any}
use Rattle.std.specs.declared.cmp.Ordering.TheVariants.{Less, Equal}
use Rattle.std.specs.Cmp.{IsTotalOrder, tied_itself, nat_cmp_is}
use Rattle.std.proofs.lemmas.Bool.{cases_order, false≢true}
use Rattle.std.specs.Ordering.{is_eq, is_gt, nat_cmp}
use Rattle.std.specs.BTreeMap.{is_at}
use Rattle.std.proofs.lemmas.Cmp.{eq_by_cmp_equiv}
use Rattle.std.proofs.lemmas.List.Folds.{list_any-append}
use Rattle.std.proofs.lemmas.Map.Lookups.{CmpEqualImpliesEq}
use Rattle.std.proofs.lemmas.Map.Views.{tells_apart, Contains-from_any, list_any-from_Contains}
use Rattle.policy_values.specs.Reaches.{has}
use Rattle.policy_values.specs.Least.{IsLeastIfAny, lower_of}
use Rattle.policy_values.specs.Repeated.{IsRepeated, StandsEarlier}
use Rattle.policy_values.proofs.Least.{IsLeastIfAny-same, lower_least}
use Rattle.policy_values.proofs.Repeated.{repeated_push, earlier_at}

-- the set has the keys of the list
abbrev pub IsSeen : {K : Type 0} → (K → K → Ordering) → List K → List (Bor K) → Type 0
IsSeen {K} cmp xs seen = (q : K) → list_any (λ r. is_eq (cmp q r.now)) seen ≡ has cmp xs q

module _ {K : Type 0} {cmp : K → K → Ordering} (o : IsTotalOrder cmp) (exact : CmpEqualImpliesEq cmp) where
  after : (seen any b : Bool) → seen ≡ any → cond b true seen ≡ (any || (b || false))
  after seen true true h = refl
  after seen false true h = refl
  after seen true false h = h
  after seen false false h = h

  -- whether the list has the key, by the set
  pub found : (xs : List K) (seen : List (Bor K)) (x : K) → IsSeen cmp xs seen → list_any (λ r. is_eq (cmp x r.now)) seen ≡ true → Contains xs x
  found xs seen x s h = Contains-from_any (tells_apart exact) x xs (sym (s x) ∙ h)

  pub fresh : (xs : List K) (seen : List (Bor K)) (x : K) → IsSeen cmp xs seen → list_any (λ r. is_eq (cmp x r.now)) seen ≡ false → Contains xs x → ⊥
  fresh xs seen x s h there = false≢true (sym h ∙ s x ∙ list_any-from_Contains (eq_by_cmp_equiv o) x xs there)

  pub seen_more : (xs : List K) (seen seen' : List (Bor K)) (x : K) → IsSeen cmp xs seen
      → ((q : K) → list_any (λ r. is_eq (cmp q r.now)) seen' ≡ cond (is_eq (cmp x q)) true (list_any (λ r. is_eq (cmp q r.now)) seen))
      → IsSeen cmp (xs ++ x ∷ []) seen'
  seen_more xs seen seen' x s u q = rw (u q, list_any-append (is_at (cmp q)) xs (x ∷ []), (eq_by_cmp_equiv o).symm q x) (after _ _ _ (s q))

  -- the least repeated key, where the next one is new, and where it is not
  pub least_new : (xs : List K) (x : K) (least : Option K) → (Contains xs x → ⊥) → IsLeastIfAny cmp (IsRepeated xs) least → IsLeastIfAny cmp (IsRepeated (xs ++ x ∷ [])) least
  least_new xs x least new l =
      IsLeastIfAny-same cmp (IsRepeated xs) (IsRepeated (xs ++ x ∷ []))
      (λ q. (λ r. (repeated_push xs x q).0 (inl r), λ r. elim ((repeated_push xs x q).1 r) [ inl old ↦ old | inr (_, there) ↦ absurd (new there) ])) least l

  pub least_again : (xs : List K) (x : K) (least : Option K) → Contains xs x → IsLeastIfAny cmp (IsRepeated xs) least → IsLeastIfAny cmp (IsRepeated (xs ++ x ∷ [])) (lower_of cmp least (Some x))
  least_again xs x least there l =
      IsLeastIfAny-same cmp (λ q. IsRepeated xs q ⊎ (q ≡ x)) (IsRepeated (xs ++ x ∷ []))
      (λ q. (λ r. (repeated_push xs x q).0 (elim r [ inl old ↦ inl old | inr same ↦ inr (same, there) ]), λ r. elim ((repeated_push xs x q).1 r) [ inl old ↦ inl old | inr (same, _) ↦ inr same ]))
      (lower_of cmp least (Some x))
      (lower_least o (IsRepeated xs) (λ q. q ≡ x) least (Some x) l (record { holds = refl; least = λ q same. rw same (ap is_gt (tied_itself o x)) }))

-- the first place whose key stands earlier
pub not_after : (i j : ℕ) → (j < i → ⊥) → is_gt (nat_cmp i j) ≡ false
not_after i j h = elim (cases_order i j) [
  | inl same ↦ rw (← (nat_cmp_is i j Equal same)) refl
  | inr (inl below) ↦ rw (← (nat_cmp_is i j Less below)) refl
  | inr (inr above) ↦ absurd (h above)
]

-- a place is found exactly where a key is repeated
pub some_repeated : {K : Type 0} (xs : List K) (found : Option ℕ) → IsLeastIfAny nat_cmp (StandsEarlier xs) found → IsSome found ↔ ((k : K) × IsRepeated xs k)
some_repeated xs None none = (λ h. absurd (false≢true h), λ (k, r). absurd (none r.0 (rw r.1 r.2)))
some_repeated xs (Some i) l = (λ _. let (k, at, earlier) = earlier_at xs i l.holds in (k, (i, at, earlier)), λ _. refl)
