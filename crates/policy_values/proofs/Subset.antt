-- Whether the steps from the keys of a set lead into it.
use Rattle.std.proofs.Common.{◌≡◌, Bool, true, false, ◌⊎◌, inl, inr, List, [], ◌∷◌, Contains, refl, sym, ◌∙◌, ap}
use Rattle.std.specs.declared.cmp.Ordering.{Ordering}
use Rattle.std.specs.Cmp.{IsTotalOrder, tied_itself}
use Rattle.std.specs.Ordering.{is_eq}
use Rattle.std.specs.BTreeSet.{BTreeSet}
use Rattle.std.proofs.lemmas.Bool.{or_cases, or_left, or_right, false≢true}
use Rattle.std.proofs.lemmas.Map.Lookups.{CmpEqualImpliesEq}
use Rattle.std.proofs.lemmas.Map.Views.{tells_apart, btree_set_contains_iff}
use Rattle.policy_values.specs.Reaches.{has, Leads}

-- the steps from each key lead into the set, or the key is left
pub record IsClosedBut {K : Type 0} (cmp : K → K → Ordering) (steps : List (K × BTreeSet K)) (set left : List K) : Type 0 where
  pub into : (y z : K) → Contains set y → Leads cmp steps y z → Contains set z ⊎ (has cmp left y ≡ true)

module _ {K : Type 0} {cmp : K → K → Ordering} (o : IsTotalOrder cmp) (exact : CmpEqualImpliesEq cmp) where
  -- a list is in another, or has a key that the other lacks
  subset_or : (xs ys : List K) → ((q : K) → has cmp xs q ≡ true → has cmp ys q ≡ true) ⊎ ((q : K) × (has cmp xs q ≡ true) × (has cmp ys q ≡ false))
  subset_or [] ys = inl (λ q h. absurd (false≢true h))
  subset_or (x ∷ xs) ys = at_test (has cmp ys x) refl (subset_or xs ys) where
    at_test : (b : Bool) → has cmp ys x ≡ b → ((q : K) → has cmp xs q ≡ true → has cmp ys q ≡ true) ⊎ ((q : K) × (has cmp xs q ≡ true) × (has cmp ys q ≡ false))
        → ((q : K) → has cmp (x ∷ xs) q ≡ true → has cmp ys q ≡ true) ⊎ ((q : K) × (has cmp (x ∷ xs) q ≡ true) × (has cmp ys q ≡ false))
    at_test false is rest = inr (x, or_left _ _ (ap is_eq (tied_itself o x)), is)
    at_test true is (inl all) = inl (λ q h. elim (or_cases (is_eq (cmp q x)) (has cmp xs q) h) [ inl same ↦ rw (tells_apart exact q x same) is | inr later ↦ all q later ])
    at_test true is (inr (q, there, lacks)) = inr (q, or_right _ _ there, lacks)

  -- a set that is no subset has a key that the other lacks
  pub lacking : (s t : BTreeSet K) → (((q : K) → has cmp s.keys q ≡ true → has cmp t.keys q ≡ true) → ⊥) → (z : K) × Contains s.keys z × (¬ Contains t.keys z)
  lacking s t not_in = elim (subset_or s.keys t.keys) [
    | inl all ↦ absurd (not_in all)
    | inr (z, there, lacks) ↦ (z, (btree_set_contains_iff o exact s z).0 there, λ c. false≢true (sym lacks ∙ (btree_set_contains_iff o exact t z).1 c))
  ]

  pub closed_first : (steps : List (K × BTreeSet K)) (set : BTreeSet K) → IsClosedBut cmp steps set.keys set.keys
  closed_first steps set = record { into = λ y z c s. inr ((btree_set_contains_iff o exact set y).1 c) }

  pub closed_step : (steps : List (K × BTreeSet K)) (set left rest : List K) (key : K) → IsClosedBut cmp steps set left → left ≡ key ∷ rest
      → ((z : K) → Leads cmp steps key z → Contains set z) → IsClosedBut cmp steps set rest
  closed_step steps set left rest key t e here = record {
    into = λ y z c s. elim (t.into y z c s) [
      | inl in_set ↦ inl in_set
      | inr among ↦ elim (or_cases (is_eq (cmp y key)) (has cmp rest y) (rw e at among)) [ inl same ↦ inl (here z (rw (tells_apart exact y key same) at s)) | inr later ↦ inr later ]
    ];
  }

  pub closed_end : (steps : List (K × BTreeSet K)) (set : List K) → IsClosedBut cmp steps set [] → (y z : K) → Contains set y → Leads cmp steps y z → Contains set z
  closed_end steps set t y z c s = elim (t.into y z c s) [ inl in_set ↦ in_set | inr never ↦ absurd (false≢true never) ]
