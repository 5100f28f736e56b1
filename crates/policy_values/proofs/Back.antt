-- Steps that are added one by one.
use Rattle.std.proofs.Common.{◌≡◌, Bool, true, false, ◌||◌, ◌&&◌, ◌⊎◌, inl, inr, cond, List, [], ◌∷◌, Some, None, refl, sym, ◌∙◌, ap, arith}
use Rattle.std.specs.declared.cmp.Ordering.{Ordering}
use Rattle.std.proofs.Math.Bool.{or-false}
use Rattle.std.specs.Cmp.{IsTotalOrder, tied_itself}
use Rattle.std.specs.Ordering.{is_eq}
use Rattle.std.specs.Option.{is_some}
use Rattle.std.specs.Map.{keys_of}
use Rattle.std.specs.BTreeMap.{is_at}
use Rattle.std.proofs.lemmas.Bool.{or_cases, or_left, or_right, and_from, false≢true}
use Rattle.std.proofs.lemmas.Cmp.{eq_by_cmp_equiv}
use Rattle.std.proofs.lemmas.Map.Made.{is_some-lookup}
use Rattle.std.specs.BTreeSet.{BTreeSet}
use Rattle.std.proofs.lemmas.Map.Lookups.{CmpEqualImpliesEq}
use Rattle.std.proofs.lemmas.Map.Views.{tells_apart}
use Rattle.policy_values.proofs.Reaches.{Leads-key, leads-Leads}
use Rattle.policy_values.specs.Reaches.{at, has, leads, Leads, IsReversed}

module _ {K : Type 0} {cmp : K → K → Ordering} (exact : CmpEqualImpliesEq cmp) where
  -- one step more, from a key and to one
  pub step_added : (steps steps' : List (K × BTreeSet K)) (from to : K) (next : BTreeSet K)
      → ((q : K) → at cmp steps' q ≡ cond (is_eq (cmp from q)) (Some next) (at cmp steps q))
      → ((q : K) → has cmp next.keys q ≡ (leads cmp steps from q || is_eq (cmp to q)))
      → (x y : K) → leads cmp steps' x y ≡ (leads cmp steps x y || (is_eq (cmp from x) && is_eq (cmp to y)))
  step_added steps steps' from to next u h x y = at_test (is_eq (cmp from x)) refl where
    at_test : (b : Bool) → is_eq (cmp from x) ≡ b → leads cmp steps' x y ≡ (leads cmp steps x y || (is_eq (cmp from x) && is_eq (cmp to y)))
    at_test true is = rw (u x, is) (rw (tells_apart exact from x is) at (h y))
    at_test false is = rw (u x, is) (grind arith)

module _ {K : Type 0} (cmp : K → K → Ordering) where
  -- into a set that is there
  pub added_here : (steps : List (K × BTreeSet K)) (from to : K) (old next : BTreeSet K) → at cmp steps from ≡ Some old
      → ((q : K) → has cmp next.keys q ≡ cond (is_eq (cmp to q)) true (has cmp old.keys q))
      → (q : K) → has cmp next.keys q ≡ (leads cmp steps from q || is_eq (cmp to q))
  added_here steps from to old next e u q = rw e (let h = u q in grind arith)

  -- into a new set
  pub added_first : (steps : List (K × BTreeSet K)) (from to : K) (old next : BTreeSet K) → at cmp steps from ≡ None → old.keys ≡ []
      → ((q : K) → has cmp next.keys q ≡ cond (is_eq (cmp to q)) true (has cmp old.keys q))
      → (q : K) → has cmp next.keys q ≡ (leads cmp steps from q || is_eq (cmp to q))
  added_first steps from to old next e empty u q = rw e (let h = rw empty at (u q) in grind arith)

  pub keys_added : (steps steps' : List (K × BTreeSet K)) (from : K) (next : BTreeSet K) (q : K)
      → at cmp steps' q ≡ cond (is_eq (cmp from q)) (Some next) (at cmp steps q) → is_some (at cmp steps' q) ≡ (is_eq (cmp from q) || is_some (at cmp steps q))
  keys_added steps steps' from next q u = rw u (elim (is_eq (cmp from q)) as (λ b. is_some (cond b (Some next) (at cmp steps q)) ≡ (b || is_some (at cmp steps q))) [ true ↦ refl | false ↦ refl ])

-- the key has an entry, or is led to
abbrev pub IsMentioned : {K : Type 0} → (K → K → Ordering) → List (K × BTreeSet K) → K → Type 0
IsMentioned {K} cmp steps q = (is_some (at cmp steps q) ≡ true) ⊎ ((x : K) × Leads cmp steps x q)

-- the steps from the keys of `left` are still to be turned
pub record IsTurnedBut {K : Type 0} (cmp : K → K → Ordering) (steps back : List (K × BTreeSet K)) (left : List K) : Type 0 where
  pub keys : (q : K) → is_some (at cmp steps q) ≡ true → (is_some (at cmp back q) || has cmp left q) ≡ true
  pub only : (q : K) → is_some (at cmp back q) ≡ true → IsMentioned cmp steps q
  pub turned : (x y : K) → (leads cmp back x y || (has cmp left y && leads cmp steps y x)) ≡ leads cmp steps y x

-- and those from `key` to the keys of `more`
pub record IsTurnedButOf {K : Type 0} (cmp : K → K → Ordering) (steps back : List (K × BTreeSet K)) (left : List K) (key : K) (more : List K) : Type 0 where
  pub keys : (q : K) → is_some (at cmp steps q) ≡ true → (is_some (at cmp back q) || has cmp left q) ≡ true
  pub only : (q : K) → is_some (at cmp back q) ≡ true → IsMentioned cmp steps q
  pub turned : (x y : K) → ((leads cmp back x y || (has cmp left y && leads cmp steps y x)) || (is_eq (cmp key y) && has cmp more x)) ≡ leads cmp steps y x

-- one more of those to which a key leads, by plain tests
one_more : (there late leads key here more : Bool) → (((there || (here && key)) || (late && leads)) || (key && more)) ≡ ((there || (late && leads)) || (key && (here || more)))
one_more there late leads key here more = grind arith

module _ {K : Type 0} {cmp : K → K → Ordering} (o : IsTotalOrder cmp) (exact : CmpEqualImpliesEq cmp) (steps : List (K × BTreeSet K)) where
  flipped : (x y : K) → is_eq (cmp x y) ≡ is_eq (cmp y x)
  flipped x y = (eq_by_cmp_equiv o).symm x y

  pub turned_key : (back back' : List (K × BTreeSet K)) (left rest : List K) (key : K) (next : BTreeSet K) → IsTurnedBut cmp steps back left
      → left ≡ key ∷ rest → at cmp steps key ≡ Some next
      → ((q : K) → is_some (at cmp back' q) ≡ (is_eq (cmp key q) || is_some (at cmp back q)))
      → ((x y : K) → leads cmp back' x y ≡ leads cmp back x y)
      → IsTurnedButOf cmp steps back' rest key next.keys
  turned_key back back' left rest key next t e here k l = record {
    keys = λ q h. let a = rw e at (t.keys q h) in let n = k q in let f = flipped key q in grind arith;
    only = λ q h. elim (or_cases (is_eq (cmp key q)) (is_some (at cmp back q)) (sym (k q) ∙ h)) [ inl same ↦ inl (rw (← (tells_apart exact key q same), here) refl) | inr old ↦ t.only q old ];
    turned = λ x y. let a = rw e at (t.turned x y) in let n = l x y in let f = flipped key y in let w = at_key x y in grind arith;
  } where
    at_key : (x y : K) → is_eq (cmp key y) ≡ true → leads cmp steps y x ≡ has cmp next.keys x
    at_key x y same = rw (← (tells_apart exact key y same)) (rw here refl)

  pub turned_step : (back back' : List (K × BTreeSet K)) (left more rest : List K) (key other : K) → IsTurnedButOf cmp steps back left key more
      → more ≡ other ∷ rest
      → ((q : K) → is_some (at cmp back' q) ≡ (is_eq (cmp other q) || is_some (at cmp back q)))
      → ((x y : K) → leads cmp back' x y ≡ (leads cmp back x y || (is_eq (cmp other x) && is_eq (cmp key y))))
      → IsTurnedButOf cmp steps back' left key rest
  turned_step back back' left more rest key other t e k l = record {
    keys = λ q h. let a = t.keys q h in let n = k q in grind arith;
    only = λ q h. elim (or_cases (is_eq (cmp other q)) (is_some (at cmp back q)) (sym (k q) ∙ h)) [ inl same ↦ inr (key, rw (← (tells_apart exact other q same)) led) | inr old ↦ t.only q old ];
    turned = λ x y. rw (l x y, flipped other x) (one_more (leads cmp back x y) (has cmp left y) (leads cmp steps y x) (is_eq (cmp key y)) (is_eq (cmp x other)) (has cmp rest x) ∙ rw e at (t.turned x y));
  } where
    led : Leads cmp steps key other
    led = (leads-Leads o exact steps key other).0 (sym (rw e at (t.turned other key)) ∙ or_right _ _ (and_from (is_eq (cmp key key)) (has cmp (other ∷ rest) other) (ap is_eq (tied_itself o key)) (or_left _ _ (ap is_eq (tied_itself o other)))))

  pub turned_end : (back : List (K × BTreeSet K)) (left : List K) (key : K) → IsTurnedButOf cmp steps back left key [] → IsTurnedBut cmp steps back left
  turned_end back left key t = record {
    keys = t.keys;
    only = t.only;
    turned = λ x y. let a = t.turned x y in grind arith;
  }

  pub turned_first : (back : List (K × BTreeSet K)) → back ≡ [] → IsTurnedBut cmp steps back (keys_of steps)
  turned_first back empty = record {
    keys = λ q h. rw empty (sym (is_some-lookup (is_at (cmp q)) steps) ∙ h);
    only = λ q h. absurd (false≢true (rw empty at h));
    turned = λ x y. rw empty (let k = key_of y x in grind arith);
  } where
    key_of : (y x : K) → leads cmp steps y x ≡ true → has cmp (keys_of steps) y ≡ true
    key_of y x h = Leads-key cmp steps y x ((leads-Leads o exact steps y x).0 h)

  pub turned_all : (back : List (K × BTreeSet K)) → IsTurnedBut cmp steps back [] → IsReversed cmp steps back
  turned_all back t = record {
    keys = record { each = λ q h. sym (or-false (is_some (at cmp back q))) ∙ t.keys q h; only = t.only };
    turned = λ x y.
        let a : leads cmp back x y ≡ leads cmp steps y x = (let b = t.turned x y in grind arith) in
        let l = leads-Leads o exact back x y in let r = leads-Leads o exact steps y x in
        (λ h. r.0 (sym a ∙ l.1 h), λ h. l.0 (a ∙ r.1 h));
  }
