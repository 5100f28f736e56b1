-- Maps that are filled from a list, a value for each item.
use Rattle.std.proofs.Common.{◌≡◌, Bool, true, false, ◌&&◌, List, [], ◌∷◌, map, Option, Some, None, is_some, refl, arith}
use Rattle.std.specs.declared.cmp.Ordering.{Ordering}
use Rattle.std.specs.Cmp.{IsTotalOrder}
use Rattle.std.specs.List.{IsDistinct, find}
use Rattle.std.specs.Option.{option_map}
use Rattle.std.specs.Ordering.{is_eq, eq_by_cmp}
use Rattle.std.proofs.lemmas.Map.Keys.{IsDistinct-head, IsDistinct-tail}
use Rattle.std.proofs.lemmas.Map.Lookups.{CmpEqualImpliesEq}
use Rattle.std.proofs.lemmas.Map.Views.{tells_apart}
use Rattle.policy_values.specs.Reaches.{at}
use Rattle.schema_core.specs.Listing.{Puts}
use Rattle.schema_core.proofs.Mapped.{is_at_key, turned, fresh}
use Rattle.plain_lemmas.proofs.Options.{none_of_no_some}

-- the first of the two that there is
abbrev pub either_of : {X : Type 0} → Option X → Option X → Option X
either_of (Some x) r = Some x
either_of None r = r

-- each item's value is in the map, as it is seen, or left
pub record IsKept {X A V W : Type 0} (cmp : A → A → Ordering) (name : X → A) (view : V → W) (value : X → W) (all left : List X) (values : List (A × V)) : Type 0 where
  pub once : IsDistinct (eq_by_cmp cmp) (map name left)
  pub apart : (q : A) → (is_some (at cmp values q) && is_some (find (is_at_key cmp name q) left)) ≡ false
  pub holds : (q : A) → either_of (option_map view (at cmp values q)) (option_map value (find (is_at_key cmp name q) left)) ≡ option_map value (find (is_at_key cmp name q) all)

module _ {X A V W : Type 0} {cmp : A → A → Ordering} (o : IsTotalOrder cmp) (exact : CmpEqualImpliesEq cmp) (name : X → A) (view : V → W) (value : X → W) where
  -- the next item's is in
  pub kept_more : (all left rest : List X) (values values' : List (A × V)) (x : X) (v : V) → IsKept cmp name view value all left values
      → left ≡ x ∷ rest → Puts cmp values values' (name x) v → view v ≡ value x → IsKept cmp name view value all rest values'
  kept_more all left rest values values' x v t e puts same = record {
    once = IsDistinct-tail (eq_by_cmp cmp) (name x) (map name rest) once;
    apart = λ q. apart_at q (is_eq (cmp (name x) q)) refl;
    holds = λ q. holds_at q (is_eq (cmp (name x) q)) refl;
  } where
    once : IsDistinct (eq_by_cmp cmp) (name x ∷ map name rest)
    once = rw e at t.once

    gone : (q : A) → is_eq (cmp (name x) q) ≡ true → find (is_at_key cmp name q) rest ≡ None
    gone q is = rw (← (tells_apart exact (name x) q is)) (fresh cmp name x rest (IsDistinct-head (eq_by_cmp cmp) (name x) (map name rest) once))

    new : (q : A) → is_eq (cmp (name x) q) ≡ true → at cmp values q ≡ None
    new q is = none_of_no_some (at cmp values q) (let a = rw (e, turned o (name x) q, is) at (t.apart q) in grind arith)

    apart_at : (q : A) (b : Bool) → is_eq (cmp (name x) q) ≡ b → (is_some (at cmp values' q) && is_some (find (is_at_key cmp name q) rest)) ≡ false
    apart_at q true is = rw (puts q, is, gone q is) refl
    apart_at q false is = rw (puts q, is) (rw (e, turned o (name x) q, is) at (t.apart q))

    holds_at : (q : A) (b : Bool) → is_eq (cmp (name x) q) ≡ b → either_of (option_map view (at cmp values' q)) (option_map value (find (is_at_key cmp name q) rest)) ≡ option_map value (find (is_at_key cmp name q) all)
    holds_at q true is = rw (puts q, is, same) (rw (e, turned o (name x) q, is, new q is) at (t.holds q))
    holds_at q false is = rw (puts q, is) (rw (e, turned o (name x) q, is) at (t.holds q))

  -- nothing is in
  pub kept_first : (all : List X) (values : List (A × V)) → values ≡ [] → IsDistinct (eq_by_cmp cmp) (map name all) → IsKept cmp name view value all all values
  kept_first all values empty once = record { once = once; apart = λ q. rw empty refl; holds = λ q. rw empty refl }

  -- all is in
  pub kept_all : (all left : List X) (values : List (A × V)) → IsKept cmp name view value all left values → left ≡ [] → (q : A) → option_map view (at cmp values q) ≡ option_map value (find (is_at_key cmp name q) all)
  kept_all all left values t e q = by_case (at cmp values q) (rw e at (t.holds q)) where
    by_case : (r : Option V) → either_of (option_map view r) None ≡ option_map value (find (is_at_key cmp name q) all) → option_map view r ≡ option_map value (find (is_at_key cmp name q) all)
    by_case None h = h
    by_case (Some v) h = h

pub same_presence : {X V W : Type 0} (view : V → W) (value : X → W) (r : Option V) (s : Option X) → option_map view r ≡ option_map value s → is_some r ≡ is_some s
same_presence view value None None h = refl
same_presence view value (Some v) (Some x) h = refl
same_presence view value None (Some x) h = cc
same_presence view value (Some v) None h = cc

-- values that are seen as they are
pub as_it_is : {V : Type 0} (r : Option V) → option_map (λ v. v) r ≡ r
as_it_is None = refl
as_it_is (Some v) = refl
