-- A closure that is made key by key.
use Rattle.std.proofs.Common.{◌≡◌, ◌⊎◌, inl, inr, zero, suc, arith, not-suc-le-zero, Bool, true, false, ◌||◌, ◌↔◌, Contains, Some, None, Option, List, [], ◌∷◌, refl, sym, ap, ◌∙◌}
use Rattle.std.specs.declared.cmp.Ordering.{Ordering}
use Rattle.std.proofs.Math.Bool.{or-false, or-true}
use Rattle.std.specs.Cmp.{IsTotalOrder}
use Rattle.std.specs.Option.{is_some, IfSome, IsSomeAnd}
use Rattle.std.specs.Map.{keys_of}
use Rattle.std.specs.BTreeMap.{is_at}
use Rattle.std.specs.BTreeSet.{BTreeSet}
use Rattle.std.proofs.lemmas.Map.Lookups.{CmpEqualImpliesEq}
use Rattle.std.proofs.lemmas.Map.Made.{is_some-lookup}
use Rattle.std.proofs.lemmas.Bool.{false≢true}
use Rattle.std.proofs.lemmas.Map.Views.{tells_apart}
use Rattle.std.specs.Ordering.{is_eq}
use Rattle.policy_values.specs.Reaches.{at, Reaches, last, more, has, Leads, IsClosure}
use Rattle.policy_values.specs.ClosureSteps.{AreWhole, IsAdded, IsPartlyClosed, IsEmptyAt}
use Rattle.policy_values.proofs.Reaches.{Reaches-is_some, Leads-at}

-- no key was closed yet
pub closed_none : {K : Type 0} (cmp : K → K → Ordering) (steps : List (K × BTreeSet K)) → IsPartlyClosed cmp steps [] (keys_of steps)
closed_none cmp steps = record { keys = λ q. sym (is_some-lookup (is_at (cmp q)) steps); whole = record { reached = λ q. tt; ordered = λ q. tt } }

module _ {K : Type 0} {cmp : K → K → Ordering} (o : IsTotalOrder cmp) (exact : CmpEqualImpliesEq cmp) where
  -- all keys were closed
  pub closed_all : (steps closed : List (K × BTreeSet K)) → IsPartlyClosed cmp steps closed [] → IsClosure cmp steps closed
  closed_all steps closed p = record {
    keys = λ x. sym (or-false (is_some (at cmp closed x))) ∙ p.keys x;
    reached = λ x y. at_key x y (at cmp closed x) refl (p.whole.reached x) (p.keys x);
    ordered = p.whole.ordered;
  } where
    at_key : (x y : K) (r : Option (BTreeSet K)) → at cmp closed x ≡ r → IfSome r (λ n. (z : K) → Contains n.keys z ↔ Reaches (Leads cmp steps) x z) → (is_some r || false) ≡ is_some (at cmp steps x) → Leads cmp closed x y ↔ Reaches (Leads cmp steps) x y
    at_key x y None is reached keys = rw is (λ h. absurd h, λ way. absurd (false≢true (keys ∙ Reaches-is_some cmp steps way)))
    at_key x y (Some n) is reached keys = rw is (reached y)

  -- a key that is left is closed already
  pub closed_there : (steps closed : List (K × BTreeSet K)) (x : K) (left : List K) → IsPartlyClosed cmp steps closed (x ∷ left) → is_some (at cmp closed x) ≡ true → IsPartlyClosed cmp steps closed left
  closed_there steps closed x left p there = record { keys = λ q. at_key q (is_eq (cmp q x)) refl (p.keys q); whole = p.whole } where
    at_key : (q : K) (b : Bool) → is_eq (cmp q x) ≡ b → (is_some (at cmp closed q) || (is_eq (cmp q x) || has cmp left q)) ≡ is_some (at cmp steps q) → (is_some (at cmp closed q) || has cmp left q) ≡ is_some (at cmp steps q)
    at_key q true is keys = let same = tells_apart exact q x is in ap (λ b. b || has cmp left q) (ap (λ k. is_some (at cmp closed k)) same ∙ there) ∙ sym (ap (λ b. b || (is_eq (cmp q x) || has cmp left q)) (ap (λ k. is_some (at cmp closed k)) same ∙ there)) ∙ keys
    at_key q false is keys = rw is at keys

  -- a key of the steps is closed
  pub closed_more : (steps closed closed' : List (K × BTreeSet K)) (x : K) (next : BTreeSet K) (left : List K) → at cmp steps x ≡ Some next → IsAdded cmp x closed closed' → AreWhole cmp steps closed'
      → IsPartlyClosed cmp steps closed left → IsPartlyClosed cmp steps closed' left
  closed_more steps closed closed' x next left here added whole p = record { keys = λ q. at_key q (is_eq (cmp q x)) refl; whole = whole } where
    at_key : (q : K) (b : Bool) → is_eq (cmp q x) ≡ b → (is_some (at cmp closed' q) || has cmp left q) ≡ is_some (at cmp steps q)
    at_key q true is = ap (λ b. b || has cmp left q) (added q ∙ ap (λ b. b || is_some (at cmp closed q)) is) ∙ sym (ap (λ k. is_some (at cmp steps k)) (tells_apart exact q x is) ∙ ap is_some here)
    at_key q false is = ap (λ b. b || has cmp left q) (added q ∙ ap (λ b. b || is_some (at cmp closed q)) is) ∙ p.keys q

  -- the first key that is left is closed
  pub closed_next : (steps closed closed' : List (K × BTreeSet K)) (x : K) (left : List K) → IsAdded cmp x closed closed' → AreWhole cmp steps closed'
      → IsPartlyClosed cmp steps closed (x ∷ left) → IsPartlyClosed cmp steps closed' left
  closed_next steps closed closed' x left added whole p = record { keys = λ q. at_key q (is_eq (cmp q x)) refl; whole = whole } where
    at_key : (q : K) (b : Bool) → is_eq (cmp q x) ≡ b → (is_some (at cmp closed' q) || has cmp left q) ≡ is_some (at cmp steps q)
    at_key q true is = ap (λ b. b || has cmp left q) (added q ∙ ap (λ b. b || is_some (at cmp closed q)) is) ∙ sym (or-true (is_some (at cmp closed q)))
        ∙ sym (ap (λ b. is_some (at cmp closed q) || (b || has cmp left q)) is) ∙ p.keys q
    at_key q false is = ap (λ b. b || has cmp left q) (added q ∙ ap (λ b. b || is_some (at cmp closed q)) is)
        ∙ sym (ap (λ b. is_some (at cmp closed q) || (b || has cmp left q)) is) ∙ p.keys q

-- where what a key leads to leads no further, that is all that is reached
pub reached_at_once : {K : Type 0} (cmp : K → K → Ordering) (steps closed : List (K × BTreeSet K)) (key : K) (next : BTreeSet K) → AreWhole cmp steps closed → at cmp steps key ≡ Some next
    → ((m : K) → Contains next.keys m → IsEmptyAt cmp closed m) → (y : K) → Contains next.keys y ↔ Reaches (Leads cmp steps) key y
reached_at_once {K} cmp steps closed key next whole here empty y = (λ h. last ((Leads-at cmp steps key next here y).1 h), from y) where
  outside : {z : K} → Contains [] z → ⊥
  outside i = not-suc-le-zero i.1

  ends : (r : Option (BTreeSet K)) (m z : K) → IfSome r (λ set. (w : K) → Contains set.keys w ↔ Reaches (Leads cmp steps) m w) → IsSomeAnd r (λ set. set.keys ≡ []) → Reaches (Leads cmp steps) m z → ⊥
  ends None m z all none way = absurd none
  ends (Some set) m z all none way = outside (rw none at ((all z).1 way))

  from : (z : K) → Reaches (Leads cmp steps) key z → Contains next.keys z
  from z (last s) = (Leads-at cmp steps key next here z).0 s
  from z (more {y = m} s r) = absurd (ends (at cmp closed m) m z (whole.reached m) (empty m ((Leads-at cmp steps key next here m).0 s)) r)

-- what stands in a list is its first element or stands behind it
pub first_or_behind : {X : Type 0} (x : X) (xs : List X) (y : X) → Contains (x ∷ xs) y → (x ≡ y) ⊎ Contains xs y
first_or_behind x xs y (zero, below, is) = inl is
first_or_behind x xs y (suc i, below, is) = inr (i, omega (arith, below), is)
