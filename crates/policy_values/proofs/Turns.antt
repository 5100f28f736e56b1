-- A loop that adds keys to a set, and those that are new to a list.
use Rattle.std.proofs.Common.{◌≡◌, ◌+◌, Bool, true, false, ◌||◌, ◌&&◌, not, cond, List, [], ◌∷◌, ◌++◌, length, sym, arith, length-append}
use Rattle.std.specs.declared.cmp.Ordering.{Ordering}
use Rattle.std.specs.Cmp.{IsTotalOrder}
use Rattle.std.specs.Ordering.{is_eq}
use Rattle.std.specs.List.Sorted.{IsStrictlySortedBy}
use Rattle.std.proofs.lemmas.Cmp.{eq_by_cmp_equiv}
use Rattle.std.proofs.lemmas.List.Folds.{list_any-append}
use Rattle.std.proofs.lemmas.Map.Lookups.{CmpEqualImpliesEq}
use Rattle.std.proofs.lemmas.Map.Views.{tells_apart}
use Rattle.policy_values.specs.Reaches.{has}

-- of the keys that pass `all`, those of `left` are still to be added
pub record IsTurn {K : Type 0} (cmp : K → K → Ordering) (all : K → Bool) (left old new before now : List K) : Type 0 where
  pub ordered : IsStrictlySortedBy cmp new
  pub grows : (q : K) → (has cmp new q || has cmp old q) ≡ has cmp new q
  pub added : (q : K) → (has cmp new q || has cmp left q) ≡ (has cmp old q || all q)
  pub waits : (q : K) → has cmp now q ≡ (has cmp before q || (has cmp new q && not (has cmp old q)))
  pub count : length now + length old ≡ length before + length new

module _ {K : Type 0} {cmp : K → K → Ordering} (o : IsTotalOrder cmp) (exact : CmpEqualImpliesEq cmp) where
  -- the next key was not there, and waits
  pub turn_new : (all : K → Bool) (left rest old new new' before now now' : List K) (x : K) → IsTurn cmp all left old new before now
      → left ≡ x ∷ rest → has cmp new x ≡ false
      → IsStrictlySortedBy cmp new' → ((q : K) → has cmp new' q ≡ cond (is_eq (cmp x q)) true (has cmp new q)) → length new' ≡ length new + 1
      → now' ≡ now ++ x ∷ []
      → IsTurn cmp all rest old new' before now'
  turn_new all left rest old new new' before now now' x t e absent s u l w = record {
    ordered = s;
    grows = λ q. let g = t.grows q in let n = u q in grind arith;
    added = λ q. let a = rw e at (t.added q) in let n = u q in let r = turned q in grind arith;
    waits = λ q.
        let a = absent_at q in let g = t.grows q in let n = u q in let r = turned q in let f = t.waits q in
        rw (w, list_any-append (λ k. is_eq (cmp q k)) now (x ∷ [])) (grind arith);
    count = rw w (omega (arith, length-append now (x ∷ []), t.count));
  } where
    turned : (q : K) → is_eq (cmp q x) ≡ is_eq (cmp x q)
    turned q = (eq_by_cmp_equiv o).symm q x

    absent_at : (q : K) → is_eq (cmp x q) ≡ true → has cmp new q ≡ false
    absent_at q same = rw (sym (tells_apart exact x q same)) absent

  -- the next key was there
  pub turn_old : (all : K → Bool) (left rest old new new' before now : List K) (x : K) → IsTurn cmp all left old new before now
      → left ≡ x ∷ rest → has cmp new x ≡ true → new' ≡ new
      → IsTurn cmp all rest old new' before now
  turn_old all left rest old new new' before now x t e there same = rw same record {
    ordered = t.ordered;
    grows = t.grows;
    added = λ q. let a = rw e at (t.added q) in let h = there_at q in grind arith;
    waits = t.waits;
    count = t.count;
  } where
    there_at : (q : K) → is_eq (cmp q x) ≡ true → has cmp new q ≡ true
    there_at q same = rw (tells_apart exact q x same) there
