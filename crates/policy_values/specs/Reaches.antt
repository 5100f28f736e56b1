-- What leads to what by one or more steps.
use Rattle.std.specs.Prelude.{◌≡◌, ◌↔◌, ◌⊎◌, Bool, true, false, List, Option, Contains, is_some, IsSomeAnd, IfSome}
use Rattle.std.specs.List.{list_any}
use Rattle.std.specs.Option.{option_map_or}
use Rattle.std.specs.declared.cmp.Ordering.{Ordering}
use Rattle.std.specs.Map.{lookup}
use Rattle.std.specs.BTreeMap.{is_at}
use Rattle.std.specs.BTreeSet.{BTreeSet}
use Rattle.std.specs.List.Sorted.{IsStrictlySortedBy}

-- from x one comes to y by one or more steps
pub data Reaches {K : Type 0} (Step : K → K → Type 0) : K → K → Type 0 where
  last : {x y : K} → Step x y → Reaches Step x y
  more : {x y z : K} → Step x y → Reaches Step y z → Reaches Step x z

-- what entries have at a key
abbrev pub at : {K X : Type 0} → (K → K → Ordering) → List (K × X) → K → Option X
at cmp es k = lookup (is_at (cmp k)) es

module _ {K : Type 0} (cmp : K → K → Ordering) where
  -- the map has y in the set at x
  abbrev pub Leads : {A : Type 0} → List (K × BTreeSet A) → K → A → Type 0
  Leads sets x y = IsSomeAnd (at cmp sets x) (λ set. Contains set.keys y)

  -- whether a key of the list is equal to q
  abbrev pub has : List K → K → Bool
  has xs q = list_any (is_at (cmp q)) xs

  -- whether the map has q in the set at x
  abbrev pub leads : List (K × BTreeSet K) → K → K → Bool
  leads steps x q = option_map_or (λ next. has next.keys q) (at cmp steps x) false

-- the key stands in a set and is no key of the steps
abbrev pub IsOutside : {A K : Type 0} → (A → A → Ordering) → (K → K → Ordering) →
    List (K × BTreeSet K) → List (A × BTreeSet K) → K → Type 0
IsOutside {A} cmp_a cmp steps sets q = (is_some (at cmp steps q) ≡ false) × ((x : A) × Leads cmp_a sets x q)

module _ {K : Type 0} (cmp : K → K → Ordering) (steps : List (K × BTreeSet K)) where
  -- the key is led to and is no key of the steps
  abbrev pub IsUnlisted : K → Type 0
  IsUnlisted q = IsOutside cmp cmp steps steps q

  -- two steps from x lead where no step does
  abbrev pub IsNotClosed : K → Type 0
  IsNotClosed x = (y : K) × (z : K) × Leads cmp steps x y × Leads cmp steps y z × (¬ Leads cmp steps x z)

  -- each key with a set has an ascending one with all that is reached from it, and no other key has a set
  pub record IsClosure (closed : List (K × BTreeSet K)) : Type 0 where
    pub keys : (x : K) → is_some (at cmp closed x) ≡ is_some (at cmp steps x)
    pub reached : (x y : K) → Leads cmp closed x y ↔ Reaches (Leads cmp steps) x y
    pub ordered : (x : K) → IfSome (at cmp closed x) (λ set. IsStrictlySortedBy cmp set.keys)

  -- the keys with sets are those of the steps and those that are led to
  pub record HasKeysOf (other : List (K × BTreeSet K)) : Type 0 where
    pub each : (q : K) → is_some (at cmp steps q) ≡ true → is_some (at cmp other q) ≡ true
    pub only : (q : K) → is_some (at cmp other q) ≡ true →
        (is_some (at cmp steps q) ≡ true) ⊎ ((x : K) × Leads cmp steps x q)

  -- the steps the other way
  pub record IsReversed (back : List (K × BTreeSet K)) : Type 0 where
    pub keys : HasKeysOf back
    pub turned : (x y : K) → Leads cmp back x y ↔ Leads cmp steps y x

  -- each key of the steps, or led to, has the ascending set of the keys from which it is reached
  pub record AreDescendants (descendants : List (K × BTreeSet K)) : Type 0 where
    pub keys : HasKeysOf descendants
    pub below : (x y : K) → Leads cmp descendants x y ↔ Reaches (Leads cmp steps) y x
    pub ordered : (x : K) → IfSome (at cmp descendants x) (λ set. IsStrictlySortedBy cmp set.keys)
