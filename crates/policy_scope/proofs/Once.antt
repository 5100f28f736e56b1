-- A loop that keeps each item once, and a set that says which it has.
use Rattle.std.proofs.Common.{◌≡◌, true, false, cond, List, [], ◌∷◌, ◌++◌, fold, ◌∙◌, arith}
use Rattle.std.specs.declared.cmp.Ordering.{Ordering}
use Rattle.std.specs.Cmp.{IsTotalOrder}
use Rattle.std.specs.Ordering.{is_eq}
use Rattle.std.specs.BTreeSet.{BTreeSet, contains}
use Rattle.std.proofs.lemmas.Cmp.{eq_by_cmp_equiv}
use Rattle.std.proofs.lemmas.List.Folds.{list_any-append}
use Rattle.policy_values.specs.Reaches.{has}
use Rattle.policy_scope.specs.Names.{with_new}

module _ {X K : Type 0} (cmp : X → X → Ordering) (make : K → X) where
  abbrev pub order : K → K → Ordering
  order a b = cmp (make a) (make b)

  -- the items so far, with what is left, make the whole, and the set has what the items are made of
  pub record IsOnce (seen : BTreeSet K) (left whole found : List X) : Type 0 where
    pub rest : fold (with_new cmp) found left ≡ whole
    pub reported : (k : K) → has cmp found (make k) ≡ contains order seen k

  module _ (o : IsTotalOrder order) {seen seen' : BTreeSet K} {left whole found : List X} (k : K) where
    -- an item that is new
    pub once_new : (found' : List X) → IsOnce seen (make k ∷ left) whole found → contains order seen k ≡ false
        → ((q : K) → contains order seen' q ≡ cond (is_eq (order k q)) true (contains order seen q)) → found' ≡ found ++ make k ∷ []
        → IsOnce seen' left whole found'
    once_new found' t absent u e = rw e record {
      rest = let r = t.rest in let h = t.reported k ∙ absent in rw h at r;
      reported = λ q. let h = t.reported q in let n = u q in let s = (eq_by_cmp_equiv o).symm q k in
          rw (list_any-append (λ x. is_eq (cmp (make q) x)) found (make k ∷ [])) (grind arith);
    }

    -- an item that is there
    pub once_old : IsOnce seen (make k ∷ left) whole found → contains order seen k ≡ true → seen'.keys ≡ seen.keys → IsOnce seen' left whole found
    once_old t there same = record {
      rest = let r = t.rest in let h = t.reported k ∙ there in rw h at r;
      reported = λ q. rw same (t.reported q);
    }
