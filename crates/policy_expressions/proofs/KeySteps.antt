-- Keys that ascend are once.
use Rattle.std.proofs.Common.{◌≡◌, ℕ, false, List, [], ◌∷◌, Ordering, map, refl, ap, ◌∙◌}
use Rattle.std.specs.declared.cmp.Ordering.TheVariants.{Less, Equal, Greater}
use Rattle.std.specs.List.{AllByRecursion}
use Rattle.std.specs.List.Sorted.{IsStrictlySortedBy}
use Rattle.std.specs.Ordering.{is_eq, ordering_reverse}
use Rattle.std.proofs.lemmas.Cmp.{nat_list_cmp_total}
use Rattle.std.proofs.lemmas.Map.Keys.{sorted_head, sorted_tail}
use Rattle.policy_values.specs.Uid.{text_cmp}
use Rattle.policy_expressions.specs.Tree.{Tree, named_of}
use Rattle.policy_expressions.specs.Keys.{IsFresh}

reversed : (o : Ordering) → o ≡ Less → is_eq (ordering_reverse o) ≡ false
reversed Less h = refl
reversed Equal h = cc
reversed Greater h = cc

later_differs : (k l : List ℕ) → text_cmp k l ≡ Less → is_eq (text_cmp l k) ≡ false
later_differs k l h = ap is_eq (nat_list_cmp_total.antisymm l k) ∙ reversed (text_cmp k l) h

fresh : {A : Type 0} (k : List ℕ) (es : List (List ℕ × Tree A)) → AllByRecursion (λ l. text_cmp k l ≡ Less) (map (λ e. e.0) es) → IsFresh k (named_of es)
fresh k [] h = tt
fresh k (e ∷ es) h = (later_differs k e.0 h.0, fresh k es h.1)

-- the first key is none of the others
pub fresh_first : {A : Type 0} (k : List ℕ) (es : List (List ℕ × Tree A)) → IsStrictlySortedBy text_cmp (k ∷ map (λ e. e.0) es) → IsFresh k (named_of es)
fresh_first k es h = fresh k es (sorted_head text_cmp k (map (λ e. e.0) es) h)

pub sorted_rest : {A : Type 0} (k : List ℕ) (es : List (List ℕ × Tree A)) → IsStrictlySortedBy text_cmp (k ∷ map (λ e. e.0) es) → IsStrictlySortedBy text_cmp (map (λ e. e.0) es)
sorted_rest k es h = sorted_tail text_cmp k (map (λ e. e.0) es) h
