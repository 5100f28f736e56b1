-- A set that is filled from a list.
use Rattle.std.proofs.Common.{◌≡◌, true, ◌||◌, cond, List, [], ◌∷◌, arith}
use Rattle.std.specs.declared.cmp.Ordering.{Ordering}
use Rattle.std.specs.Cmp.{IsTotalOrder}
use Rattle.std.specs.Ordering.{is_eq}
use Rattle.std.specs.List.Sorted.{IsStrictlySortedBy}
use Rattle.std.proofs.lemmas.Cmp.{eq_by_cmp_equiv}
use Rattle.policy_values.specs.Reaches.{has}

-- each key of the list is in the set, which had the others before, or is left
pub record IsAdded {K : Type 0} (cmp : K → K → Ordering) (before all set left : List K) : Type 0 where
  pub ordered : IsStrictlySortedBy cmp set
  pub keys : (q : K) → (has cmp set q || has cmp left q) ≡ (has cmp before q || has cmp all q)

-- the next key is in
pub added_more : {K : Type 0} {cmp : K → K → Ordering} (o : IsTotalOrder cmp) (before all set set' left rest : List K) (x : K) → IsAdded cmp before all set left
    → left ≡ x ∷ rest → IsStrictlySortedBy cmp set'
    → ((q : K) → has cmp set' q ≡ cond (is_eq (cmp x q)) true (has cmp set q))
    → IsAdded cmp before all set' rest
added_more {cmp = cmp} o before all set set' left rest x t e s u = record {
  ordered = s;
  keys = λ q. let a = rw e at (t.keys q) in let n = u q in let f = (eq_by_cmp_equiv o).symm q x in grind arith;
}

-- nothing is left
pub added_all : {K : Type 0} (cmp : K → K → Ordering) (before all set left : List K) → IsAdded cmp before all set left → left ≡ [] → (q : K) → has cmp set q ≡ (has cmp before q || has cmp all q)
added_all cmp before all set left t e q = let a = rw e at (t.keys q) in grind arith
