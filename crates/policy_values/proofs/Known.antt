-- What is known of the keys that lead to just the keys of a set, with one set more.
use Rattle.std.proofs.Common.{◌≡◌, Bool, true, false, ◌↔◌, Contains, cond, List, [], Some, refl, sym, ◌∙◌, ap}
use Rattle.std.specs.declared.cmp.Ordering.{Ordering}
use Rattle.std.specs.Ordering.{is_eq}
use Rattle.std.specs.FinMap.{slice_cmp-IsAntisymmetric}
use Rattle.std.specs.Option.{IfSome}
use Rattle.std.specs.BTreeSet.{BTreeSet}
use Rattle.std.specs.List.Sorted.{IsStrictlySortedBy}
use Rattle.std.proofs.lemmas.Map.Lookups.{CmpEqualImpliesEq}
use Rattle.std.proofs.lemmas.Map.Views.{tells_apart}
use Rattle.policy_values.specs.Reaches.{at, Reaches, last, more, Leads}
use Rattle.policy_values.specs.ClosureSteps.{set_cmp, AreReached}

-- nothing is known yet
pub known_none : {K : Type 0} (cmp : K → K → Ordering) (steps : List (K × BTreeSet K)) → AreReached cmp steps []
known_none cmp steps = record { reached = λ q. tt; ordered = λ q. tt }

-- keys that lead to the same reach the same
pub same_reach : {K : Type 0} (cmp : K → K → Ordering) (steps : List (K × BTreeSet K)) (x z y : K) → at cmp steps x ≡ at cmp steps z → Reaches (Leads cmp steps) x y → Reaches (Leads cmp steps) z y
same_reach cmp steps x z y same (last s) = last (rw same at s)
same_reach cmp steps x z y same (more s r) = more (rw same at s) r

module _ {K : Type 0} {cmp : K → K → Ordering} (exact : CmpEqualImpliesEq cmp) where
  pub exact_sets : CmpEqualImpliesEq (set_cmp cmp)
  exact_sets s t e = let same = slice_cmp-IsAntisymmetric exact s.keys t.keys e in λ i. record { keys = same i }

  -- one set more is known
  pub known_more : (steps : List (K × BTreeSet K)) (known known' : List (BTreeSet K × BTreeSet K)) (key : K) (next set : BTreeSet K) → AreReached cmp steps known
      → at cmp steps key ≡ Some next
      → ((y : K) → Contains set.keys y ↔ Reaches (Leads cmp steps) key y)
      → IsStrictlySortedBy cmp set.keys
      → ((q : BTreeSet K) → at (set_cmp cmp) known' q ≡ cond (is_eq (set_cmp cmp next q)) (Some set) (at (set_cmp cmp) known q))
      → AreReached cmp steps known'
  known_more steps known known' key next set k here reached ordered u = record {
    reached = λ q. reached_at q (is_eq (set_cmp cmp next q)) refl;
    ordered = λ q. ordered_at q (is_eq (set_cmp cmp next q)) refl;
  } where
    both : (q : BTreeSet K) → next ≡ q → (x y : K) → at cmp steps x ≡ Some q → Contains set.keys y ↔ Reaches (Leads cmp steps) x y
    both q same x y is =
        let one : at cmp steps key ≡ at cmp steps x = here ∙ ap Some same ∙ sym is in
        (λ h. same_reach cmp steps key x y one ((reached y).0 h), λ r. (reached y).1 (same_reach cmp steps x key y (sym one) r))

    reached_at : (q : BTreeSet K) (b : Bool) → is_eq (set_cmp cmp next q) ≡ b → IfSome (at (set_cmp cmp) known' q) (λ s. (x y : K) → at cmp steps x ≡ Some q → Contains s.keys y ↔ Reaches (Leads cmp steps) x y)
    reached_at q true is = rw (u q, is) (both q (tells_apart exact_sets next q is))
    reached_at q false is = rw (u q, is) (k.reached q)

    ordered_at : (q : BTreeSet K) (b : Bool) → is_eq (set_cmp cmp next q) ≡ b → IfSome (at (set_cmp cmp) known' q) (λ s. IsStrictlySortedBy cmp s.keys)
    ordered_at q true is = rw (u q, is) ordered
    ordered_at q false is = rw (u q, is) (k.ordered q)
