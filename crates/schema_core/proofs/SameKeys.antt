-- Lists with the same keys.
use Rattle.std.proofs.Common.{◌≡◌, Bool, true, ◌↔◌, List, Contains, IsTrue, sym, ◌∙◌}
use Rattle.std.specs.declared.cmp.Ordering.{Ordering}
use Rattle.std.specs.Cmp.{IsTotalOrder, both_ways}
use Rattle.std.proofs.lemmas.Cmp.{eq_by_cmp_equiv}
use Rattle.std.proofs.lemmas.Map.Lookups.{CmpEqualImpliesEq}
use Rattle.std.proofs.lemmas.Map.Views.{tells_apart, Contains-from_any, list_any-from_Contains}
use Rattle.policy_values.specs.Reaches.{has}

module _ {K : Type 0} {cmp : K → K → Ordering} (o : IsTotalOrder cmp) (exact : CmpEqualImpliesEq cmp) where
  pub has-Contains : (ks : List K) (q : K) → (has cmp ks q ≡ true) ↔ Contains ks q
  has-Contains ks q = (Contains-from_any (tells_apart exact) q ks, list_any-from_Contains (eq_by_cmp_equiv o) q ks)

  -- lists that have the same keys
  pub same_members : (ks ls : List K) → ((q : K) → has cmp ks q ≡ has cmp ls q) → (q : K) → Contains ks q ↔ Contains ls q
  same_members ks ls same q = (
    λ h. (has-Contains ls q).0 (sym (same q) ∙ (has-Contains ks q).1 h),
    λ h. (has-Contains ks q).0 (same q ∙ (has-Contains ls q).1 h),
  )

  pub has_answer : (r : Bool) (ks : List K) (q : K) → (IsTrue r ↔ Contains ks q) → has cmp ks q ≡ r
  has_answer r ks q h = both_ways _ _ (λ is. h.1 ((has-Contains ks q).0 is)) (λ is. (has-Contains ks q).1 (h.0 is))
