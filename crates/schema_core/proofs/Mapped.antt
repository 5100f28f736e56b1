-- Maps that are filled from a list, an entry for each item.
use Rattle.std.proofs.Common.{◌≡◌, ap, ℕ, ◌<◌, Bool, true, false, ◌||◌, ◌&&◌, List, [], ◌∷◌, length, map, get_or, Option, Some, None, is_some, refl, sym, ◌∙◌, arith}
use Rattle.std.specs.declared.cmp.Ordering.{Ordering}
use Rattle.std.specs.declared.cmp.Ordering.TheVariants.{Less}
use Rattle.std.specs.Cmp.{IsTotalOrder, tied_itself}
use Rattle.std.specs.List.{AllByRecursion, IsDistinct, find}
use Rattle.std.specs.List.Sorted.{IsStrictlySortedBy}
use Rattle.std.specs.Option.{option_map_or, IfSome}
use Rattle.std.specs.Ordering.{is_eq, eq_by_cmp}
use Rattle.std.specs.BTreeSet.{BTreeSet}
use Rattle.std.proofs.lemmas.Bool.{false≢true}
use Rattle.std.proofs.lemmas.Cmp.{eq_by_cmp_equiv}
use Rattle.std.proofs.lemmas.List.{length-take-le, get_or-take, get_or_default}
use Rattle.std.proofs.lemmas.Option.{slice_get-get_or, slice_get_within, get_or_from_slice_get}
use Rattle.std.proofs.lemmas.Map.Keys.{IsDistinct-from_apart, Less-from_sorted, IsDistinct-head, IsDistinct-tail}
use Rattle.std.proofs.lemmas.Map.Lookups.{CmpEqualImpliesEq}
use Rattle.std.proofs.lemmas.Map.Views.{tells_apart}
use Rattle.policy_values.specs.Reaches.{at, has}
use Rattle.policy_values.specs.Repeated.{IsRepeated}
use Rattle.schema_core.specs.Listing.{Puts}
use Rattle.plain_lemmas.proofs.Options.{none_of_no_some}

-- of keys that ascend none stands twice
pub once_from_ascending : {K : Type 0} {cmp : K → K → Ordering} → IsTotalOrder cmp → (ks : List K) → IsStrictlySortedBy cmp ks → (k : K) → IsRepeated ks k → ⊥
once_from_ascending {cmp = cmp} o ks sorted k (i, at_i, (j, in_prefix, at_j)) =
    let lt : i < length ks = slice_get_within ks i k at_i in
    let below : j < i = omega (arith, length-take-le i ks (omega arith)) in
    let first : get_or ks j k ≡ k = sym (get_or-take i ks j k below) ∙ at_j in
    let less : cmp k k ≡ Less = rw (first, get_or_from_slice_get ks i k k at_i) at (Less-from_sorted cmp ks j i k sorted below lt) in
    false≢true (ap is_eq (sym less ∙ tied_itself o k))

-- keys of which none stands twice differ
pub distinct_from_once : {K : Type 0} {cmp : K → K → Ordering} → CmpEqualImpliesEq cmp → (ks : List K) → ((k : K) → IsRepeated ks k → ⊥) → IsDistinct (eq_by_cmp cmp) ks
distinct_from_once {K} {cmp} exact ks once = IsDistinct-from_apart (eq_by_cmp cmp) ks (λ i j d lt in_range. apart i j d lt in_range (eq_by_cmp cmp (get_or ks i d) (get_or ks j d)) refl) where
  apart : (i j : ℕ) (d : K) → i < j → j < length ks → (b : Bool) → eq_by_cmp cmp (get_or ks i d) (get_or ks j d) ≡ b → eq_by_cmp cmp (get_or ks i d) (get_or ks j d) ≡ false
  apart i j d lt in_range false is = is
  apart i j d lt in_range true is =
      let k = get_or ks j d in
      let same : get_or ks i d ≡ k = tells_apart exact (get_or ks i d) k is in
      let earlier : get_or ks i k ≡ k = get_or_default ks i k d (omega arith) ∙ same in
      absurd (once k (j, slice_get-get_or ks j d in_range, (i, (omega (arith, length-take-le j ks (omega arith))), get_or-take j ks i k lt ∙ earlier)))

-- whether the item is at the key
abbrev pub is_at_key : {X A : Type 0} → (A → A → Ordering) → (X → A) → A → X → Bool
is_at_key cmp_a name q x = is_eq (cmp_a q (name x))

-- whether the item at the key lists y
abbrev pub item_lists : {X A K : Type 0} → (A → A → Ordering) → (K → K → Ordering) → (X → A) → (X → List K) → List X → A → K → Bool
item_lists cmp_a cmp name lists xs q y = option_map_or (λ x. has cmp (lists x) y) (find (is_at_key cmp_a name q) xs) false

-- whether the set at the key has y
abbrev pub set_has : {A K : Type 0} → (A → A → Ordering) → (K → K → Ordering) → List (A × BTreeSet K) → A → K → Bool
set_has cmp_a cmp sets q y = option_map_or (λ s. has cmp s.keys y) (at cmp_a sets q) false

-- each item is in the map, or left
pub record IsMapped {X A K : Type 0} (cmp_a : A → A → Ordering) (cmp : K → K → Ordering) (name : X → A) (lists : X → List K) (all left : List X) (sets : List (A × BTreeSet K)) : Type 0 where
  pub once : IsDistinct (eq_by_cmp cmp_a) (map name left)
  pub apart : (q : A) → (is_some (at cmp_a sets q) && is_some (find (is_at_key cmp_a name q) left)) ≡ false
  pub keys : (q : A) → (is_some (at cmp_a sets q) || is_some (find (is_at_key cmp_a name q) left)) ≡ is_some (find (is_at_key cmp_a name q) all)
  pub holds : (q : A) (y : K) → (set_has cmp_a cmp sets q y || item_lists cmp_a cmp name lists left q y) ≡ item_lists cmp_a cmp name lists all q y
  pub ascending : (q : A) → IfSome (at cmp_a sets q) (λ s. IsStrictlySortedBy cmp s.keys)

module _ {A : Type 0} {cmp_a : A → A → Ordering} (o : IsTotalOrder cmp_a) where
  pub turned : (x q : A) → is_eq (cmp_a q x) ≡ is_eq (cmp_a x q)
  turned x q = (eq_by_cmp_equiv o).symm q x

-- a key that differs from all names is at no item
pub fresh : {X A : Type 0} (cmp_a : A → A → Ordering) (name : X → A) (x : X) (rest : List X) → AllByRecursion (λ y. eq_by_cmp cmp_a (name x) y ≡ false) (map name rest) → find (is_at_key cmp_a name (name x)) rest ≡ None
fresh cmp_a name x [] all = refl
fresh cmp_a name x (y ∷ rest) all = rw all.0 (fresh cmp_a name x rest all.1)

module _ {X A K : Type 0} {cmp_a : A → A → Ordering} {cmp : K → K → Ordering} (o : IsTotalOrder cmp_a) (exact : CmpEqualImpliesEq cmp_a) (name : X → A) (lists : X → List K) where
  -- the next item is in
  pub mapped_more : (all left rest : List X) (sets sets' : List (A × BTreeSet K)) (x : X) (s : BTreeSet K) → IsMapped cmp_a cmp name lists all left sets
      → left ≡ x ∷ rest
      → Puts cmp_a sets sets' (name x) s
      → ((y : K) → has cmp s.keys y ≡ has cmp (lists x) y)
      → IsStrictlySortedBy cmp s.keys
      → IsMapped cmp_a cmp name lists all rest sets'
  mapped_more all left rest sets sets' x s t e puts same sorted = record {
    once = IsDistinct-tail (eq_by_cmp cmp_a) (name x) (map name rest) once;
    apart = λ q. apart_at q (is_eq (cmp_a (name x) q)) refl;
    keys = λ q. keys_at q (is_eq (cmp_a (name x) q)) refl;
    holds = λ q y. lists_at q y (is_eq (cmp_a (name x) q)) refl;
    ascending = λ q. ascending_at q (is_eq (cmp_a (name x) q)) refl;
  } where
    once : IsDistinct (eq_by_cmp cmp_a) (name x ∷ map name rest)
    once = rw e at t.once

    gone : (q : A) → is_eq (cmp_a (name x) q) ≡ true → find (is_at_key cmp_a name q) rest ≡ None
    gone q is = rw (← (tells_apart exact (name x) q is)) (fresh cmp_a name x rest (IsDistinct-head (eq_by_cmp cmp_a) (name x) (map name rest) once))

    -- the map has the key not yet
    new : (q : A) → is_eq (cmp_a (name x) q) ≡ true → at cmp_a sets q ≡ None
    new q is = none_of_no_some (at cmp_a sets q) (let a = rw (e, turned o (name x) q, is) at (t.apart q) in grind arith)

    apart_at : (q : A) (b : Bool) → is_eq (cmp_a (name x) q) ≡ b → (is_some (at cmp_a sets' q) && is_some (find (is_at_key cmp_a name q) rest)) ≡ false
    apart_at q true is = rw (puts q, is, gone q is) refl
    apart_at q false is = rw (puts q, is) (rw (e, turned o (name x) q, is) at (t.apart q))

    keys_at : (q : A) (b : Bool) → is_eq (cmp_a (name x) q) ≡ b → (is_some (at cmp_a sets' q) || is_some (find (is_at_key cmp_a name q) rest)) ≡ is_some (find (is_at_key cmp_a name q) all)
    keys_at q true is = rw (puts q, is) (rw (e, turned o (name x) q, is, new q is) at (t.keys q))
    keys_at q false is = rw (puts q, is) (rw (e, turned o (name x) q, is) at (t.keys q))

    lists_at : (q : A) (y : K) (b : Bool) → is_eq (cmp_a (name x) q) ≡ b → (set_has cmp_a cmp sets' q y || item_lists cmp_a cmp name lists rest q y) ≡ item_lists cmp_a cmp name lists all q y
    lists_at q y true is = rw (puts q, is, gone q is, same y) (let a = rw (e, turned o (name x) q, is, new q is) at (t.holds q y) in grind arith)
    lists_at q y false is = rw (puts q, is) (rw (e, turned o (name x) q, is) at (t.holds q y))

    ascending_at : (q : A) (b : Bool) → is_eq (cmp_a (name x) q) ≡ b → IfSome (at cmp_a sets' q) (λ n. IsStrictlySortedBy cmp n.keys)
    ascending_at q true is = rw (puts q, is) sorted
    ascending_at q false is = rw (puts q, is) (t.ascending q)

  -- nothing is in
  pub mapped_first : (all : List X) (sets : List (A × BTreeSet K)) → sets ≡ [] → IsDistinct (eq_by_cmp cmp_a) (map name all) → IsMapped cmp_a cmp name lists all all sets
  mapped_first all sets empty once = record {
    once = once;
    apart = λ q. rw empty refl;
    keys = λ q. rw empty refl;
    holds = λ q y. rw empty refl;
    ascending = λ q. rw empty tt;
  }

  -- all is in
  pub mapped_keys : (all left : List X) (sets : List (A × BTreeSet K)) → IsMapped cmp_a cmp name lists all left sets → left ≡ [] → (q : A) → is_some (at cmp_a sets q) ≡ is_some (find (is_at_key cmp_a name q) all)
  mapped_keys all left sets t e q = let a = rw e at (t.keys q) in grind arith

  pub mapped_lists : (all left : List X) (sets : List (A × BTreeSet K)) → IsMapped cmp_a cmp name lists all left sets → left ≡ [] → (q : A) (y : K) → set_has cmp_a cmp sets q y ≡ item_lists cmp_a cmp name lists all q y
  mapped_lists all left sets t e q y = let a = rw e at (t.holds q y) in grind arith
