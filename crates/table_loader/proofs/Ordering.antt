-- Fields are in order where their keys ascend and each value is in order. By recursion on the entries of a map;
-- `IsLookingAt` is what a loop over the entries keeps.
use Rattle.std.proofs.Common.{◌≡◌, ◌≤◌, ℕ, List, [], ◌∷◌, sym, ap, subst, arith}
use Rattle.std.specs.List.{AllByRecursion}
use Rattle.std.specs.List.Sorted.{IsStrictlySortedBy}
use Rattle.std.specs.Map.{keys_of}
use Rattle.std.specs.declared.cmp.Ordering.TheVariants.{Less}
use Rattle.policy_values.specs.Uid.{text_cmp}
use Rattle.policy_values.specs.Value.{Val, size_of, size_of_fields, fields_of}
use Rattle.table_loader.specs.Order.{IsBelowAll, IsOrdered, AreOrdered}

-- each value of the entries is in order
abbrev AreEach : List (List ℕ × Val) → Type 0
AreEach es = AllByRecursion (λ e. IsOrdered e.1) es

-- a key that is below each key of a list is below those of its fields
below_fields : (k : List ℕ) (es : List (List ℕ × Val)) →
    AllByRecursion (λ l. text_cmp k l ≡ Less) (keys_of es) → IsBelowAll k (fields_of es)
below_fields k [] h = tt
below_fields k (e ∷ es) h = (h.0, below_fields k es h.1)

fields_ordered : (es : List (List ℕ × Val)) →
    IsStrictlySortedBy text_cmp (keys_of es) → AreEach es → AreOrdered (fields_of es)
unfolding IsStrictlySortedBy
fields_ordered [] sorted each = tt
fields_ordered (e ∷ es) sorted each =
    (below_fields e.0 es sorted.0, each.0, fields_ordered es sorted.1 each.1)

-- of all entries those of `left` are still to be looked at
pub record IsLookingAt (all left : List (List ℕ × Val)) : Type 0 where
  pub rest : AreEach left → AreEach all
  pub within : size_of_fields (fields_of left) ≤ size_of_fields (fields_of all)

pub at_start : (all : List (List ℕ × Val)) → IsLookingAt all all
at_start all = record { rest = λ h. h; within = omega arith }

module _ (all left rest : List (List ℕ × Val)) (e : List ℕ × Val) (is : left ≡ e ∷ rest) (t : IsLookingAt all left) where
  pub no_larger : size_of e.1 ≤ size_of_fields (fields_of all)
  no_larger = omega (arith, t.within, ap (λ l. size_of_fields (fields_of l)) is)

  pub after_one : IsOrdered e.1 → IsLookingAt all rest
  after_one h = record {
    rest = λ k. t.rest (subst AreEach (sym is) (h, k));
    within = omega (arith, t.within, ap (λ l. size_of_fields (fields_of l)) is);
  }

pub at_end : (all : List (List ℕ × Val)) → IsStrictlySortedBy text_cmp (keys_of all) →
    IsLookingAt all [] → AreOrdered (fields_of all)
at_end all sorted t = fields_ordered all sorted (t.rest tt)
