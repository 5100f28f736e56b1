-- How a closure is found, set by set: only the private functions and their proofs speak of this.
use Rattle.std.specs.Prelude.{◌≡◌, ◌↔◌, ◌||◌, List, [], Some, Contains, is_some, IfSome, IsSomeAnd, true}
use Rattle.std.specs.Ordering.{is_eq}
use Rattle.std.specs.declared.cmp.Ordering.{Ordering}
use Rattle.std.specs.Cmp.Lexicographic.{slice_cmp}
use Rattle.std.specs.List.Sorted.{IsStrictlySortedBy}
use Rattle.std.specs.BTreeSet.{BTreeSet}
use Rattle.policy_values.specs.Reaches.{Reaches, at, Leads, has, leads}

-- sets in the order of their keys
abbrev pub set_cmp : {K : Type 0} → (K → K → Ordering) → BTreeSet K → BTreeSet K → Ordering
set_cmp cmp s t = slice_cmp cmp s.keys t.keys

-- what stands at a key is what is reached from it, ascending
pub record AreWhole {K : Type 0} (cmp : K → K → Ordering)
    (steps closed : List (K × BTreeSet K)) : Type 0 where
  pub reached : (x : K) →
      IfSome (at cmp closed x) (λ set. (y : K) → Contains set.keys y ↔ Reaches (Leads cmp steps) x y)
  pub ordered : (x : K) → IfSome (at cmp closed x) (λ set. IsStrictlySortedBy cmp set.keys)

-- the keys are those that there were, and one
abbrev pub IsAdded : {K A : Type 0} → (K → K → Ordering) → K → List (K × A) → List (K × A) → Type 0
IsAdded {K} cmp x before after =
    (q : K) → is_some (at cmp after q) ≡ (is_eq (cmp q x) || is_some (at cmp before q))

-- what is known for a set is what is reached from each key that leads to just that set
pub record AreReached {K : Type 0} (cmp : K → K → Ordering) (steps : List (K × BTreeSet K))
    (known : List (BTreeSet K × BTreeSet K)) : Type 0 where
  pub reached : (next : BTreeSet K) → IfSome (at (set_cmp cmp) known next)
      (λ set. (x y : K) → at cmp steps x ≡ Some next → Contains set.keys y ↔ Reaches (Leads cmp steps) x y)
  pub ordered : (next : BTreeSet K) →
      IfSome (at (set_cmp cmp) known next) (λ set. IsStrictlySortedBy cmp set.keys)

-- each key of the steps is closed or left, and what is closed is what is reached
pub record IsPartlyClosed {K : Type 0} (cmp : K → K → Ordering)
    (steps closed : List (K × BTreeSet K)) (left : List K) : Type 0 where
  pub keys : (q : K) → (is_some (at cmp closed q) || has cmp left q) ≡ is_some (at cmp steps q)
  pub whole : AreWhole cmp steps closed

-- an empty set stands at the key
abbrev pub IsEmptyAt : {K : Type 0} → (K → K → Ordering) → List (K × BTreeSet K) → K → Type 0
IsEmptyAt cmp sets m = IsSomeAnd (at cmp sets m) (λ set. set.keys ≡ [])

-- the set stands at one of the keys
abbrev pub IsAtOneOf : {K : Type 0} → (K → K → Ordering) →
    List (K × BTreeSet K) → List K → BTreeSet K → Type 0
IsAtOneOf {K} cmp sets keys set = (m : K) × Contains keys m × (at cmp sets m ≡ Some set)

-- the ascending keys are all reached, and no step leads out of them
pub record IsStart {K : Type 0} (cmp : K → K → Ordering)
    (steps : List (K × BTreeSet K)) (from : K) (keys : List K) : Type 0 where
  pub ordered : IsStrictlySortedBy cmp keys
  pub reached : (q : K) → has cmp keys q ≡ true → Reaches (Leads cmp steps) from q
  pub closed : (x q : K) → has cmp keys x ≡ true → leads cmp steps x q ≡ true → has cmp keys q ≡ true

module _ {K : Type 0} (cmp : K → K → Ordering) (steps : List (K × BTreeSet K)) (keys : List K) where
  -- no step leads out of the keys
  abbrev pub IsClosedUnder : Type 0
  IsClosedUnder = (y z : K) → Contains keys y → Leads cmp steps y z → Contains keys z

  -- a step leads out of the keys
  abbrev pub HasStepOut : Type 0
  HasStepOut = (y : K) × (z : K) × Contains keys y × Leads cmp steps y z × (¬ Contains keys z)
