-- Rules in turn: what comes of the first that is broken, at the least key that breaks it, is one.
use Rattle.std.proofs.Common.{◌≡◌, ◌∙◌, ◌⊎◌, inl, inr, false, Result, Ok, Err, refl, sym, ap}
use Rattle.std.specs.Cmp.{IsTotalOrder}
use Rattle.std.specs.Ordering.{is_gt, ordering_reverse}
use Rattle.std.specs.declared.cmp.Ordering.{Ordering}
use Rattle.std.specs.declared.cmp.Ordering.TheVariants.{Less, Equal, Greater}
use Rattle.std.proofs.lemmas.Map.Lookups.{CmpEqualImpliesEq}
use Rattle.policy_values.specs.Least.{IsLeast}
use Rattle.json_document.specs.declared.place.Place.{Place}

-- at most one value is such
abbrev pub IsUnique : {R : Type 0} → (R → Type 0) → Type 0
IsUnique {R} P = (r s : R) → P r → P s → r ≡ s

-- the place of the least key that breaks the rule, or else what the rest says
abbrev pub Rule : {K A : Type 0} → (K → K → Ordering) → (K → Type 0) → (K → Place) → (Result A Place → Type 0) → Result A Place → Type 0
Rule {K} cmp Breaks at Rest r = ((k : K) × IsLeast cmp Breaks k × (r ≡ Err (at k))) ⊎ (((k : K) → ¬ Breaks k) × Rest r)

-- what is made where no rule is broken
abbrev pub Made : {A : Type 0} → (A → Type 0) → Result A Place → Type 0
Made {A} P r = (x : A) × P x × (r ≡ Ok x)

pub unique_made : {A : Type 0} (P : A → Type 0) → IsUnique P → IsUnique (Made P)
unique_made P unique r s (x, p, e) (y, q, f) = e ∙ ap Ok (unique x y p q) ∙ sym f

module _ {K : Type 0} {cmp : K → K → Ordering} (o : IsTotalOrder cmp) (exact : CmpEqualImpliesEq cmp) (Breaks : K → Type 0) where
  tied : (t : Ordering) → is_gt t ≡ false → is_gt (ordering_reverse t) ≡ false → t ≡ Equal
  tied Less h k = cc
  tied Equal h k = refl
  tied Greater h k = cc

  unique_least : IsUnique (IsLeast cmp Breaks)
  unique_least k l a b = exact k l (tied (cmp k l) (a.least l b.holds) (ap is_gt (sym (o.antisymm l k)) ∙ b.least k a.holds))

  pub unique_rule : {A : Type 0} (at : K → Place) (Rest : Result A Place → Type 0) → IsUnique Rest → IsUnique (Rule cmp Breaks at Rest)
  unique_rule at Rest rest r s (inl (k, a, e)) (inl (l, b, f)) = e ∙ ap (λ k. Err (at k)) (unique_least k l a b) ∙ sym f
  unique_rule at Rest rest r s (inl (k, a, e)) (inr (none, b)) = absurd (none k a.holds)
  unique_rule at Rest rest r s (inr (none, a)) (inl (l, b, f)) = absurd (none l b.holds)
  unique_rule at Rest rest r s (inr (none, a)) (inr (never, b)) = rest r s a b
