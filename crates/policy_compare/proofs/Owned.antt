-- Policies that only one of two sets has, as they are gathered, and their conditions.
use Rattle.std.proofs.Common.{◌≡◌, ℕ, ◌+◌, ◌<◌, ◌≤◌, List, [], ◌∷◌, ◌++◌, map, length, drop, get_or, append-nil, append_assoc, sym, ap, ◌∙◌, subst}
use Rattle.std.proofs.lemmas.List.{at_drop_more, at_drop_all}
use Rattle.std.specs.Borrow.{Bor}
use Rattle.std.specs.Map.Iter.{deref}
use Rattle.schema_core.specs.EnvData.{EnvData}
use Rattle.schema_core.specs.Schema.{SchemaData}
use Rattle.policy_set.specs.Data.{PolicyData}
use Rattle.policy_set.specs.PolicySet.{PolicySetData}
use Rattle.condition_compare.specs.declared.condition.Condition.{Condition}
use Rattle.policy_compare.specs.Conditions.{IsShared, IsConditionOf, AreConditionsBut}
use Rattle.policy_compare.specs.Conditions as but
use Rattle.policy_compare.specs.Edits.{AreOwn, AreConditions, none, shared, own}

-- one more behind those so far
behind : {X : Type 0} (xs ys : List X) (x : X) → (xs ++ x ∷ []) ++ ys ≡ xs ++ x ∷ ys
behind xs ys x = append_assoc xs (x ∷ []) ys

module _ (others : PolicySetData) (all : List PolicyData) where
  -- those so far, and then those among what is left
  pub record IsGathering (left : List PolicyData) (so_far : List PolicyData) : Type 0 where
    pub on : (os : List PolicyData) → AreOwn others left os → AreOwn others all (so_far ++ os)

  pub begun : IsGathering all []
  begun = record { on = λ os h. h }

  module _ (left rest : List PolicyData) (p : PolicyData) (is : left ≡ p ∷ rest) (so_far : List PolicyData) (g : IsGathering left so_far) where
    pub passed : IsShared others p → IsGathering rest so_far
    passed h = record { on = λ os k. g.on os (subst (λ l. AreOwn others l os) (sym is) (shared h k)) }

    pub kept : (IsShared others p → ⊥) → IsGathering rest (so_far ++ p ∷ [])
    kept h = record { on = λ os k. subst (AreOwn others all) (sym (behind so_far os p)) (g.on (p ∷ os) (subst (λ l. AreOwn others l (p ∷ os)) (sym is) (own h k))) }

  pub ended : (left so_far : List PolicyData) → left ≡ [] → IsGathering left so_far → AreOwn others all so_far
  ended left so_far is g = subst (AreOwn others all) (append-nil so_far) (g.on [] (subst (λ l. AreOwn others l []) (sym is) none))

-- ---- their conditions

module _ (schema : SchemaData) (env : EnvData) (items : List (Bor PolicyData)) where
  abbrev policies : List (Bor PolicyData) → List PolicyData
  policies rs = map deref rs

  -- those so far, and then those of what is left
  pub record HaveConditions (i : ℕ) (cs : List Condition) : Type 0 where
    pub on : (rest : List Condition) → AreConditions schema env (policies (drop i items)) rest → AreConditions schema env (policies items) (cs ++ rest)

  pub none_yet : HaveConditions 0 []
  none_yet = record { on = λ rest h. h }

  pub one_more : (i : ℕ) (r : Bor PolicyData) → r ≡ get_or items i r → i < length items → (cs : List Condition) (c : Condition) → IsConditionOf schema env r.now c → HaveConditions i cs → HaveConditions (i + 1) (cs ++ c ∷ [])
  one_more i r is lt cs c condition have = record {
    on = λ rest h.
        let there : policies (drop i items) ≡ r.now ∷ policies (drop (i + 1) items) = at_drop_more policies items i r lt ∙ ap (λ x. x.now ∷ policies (drop (i + 1) items)) (sym is) in
        subst (AreConditions schema env (policies items)) (sym (behind cs rest c)) (have.on (c ∷ rest) (subst (λ ps. AreConditions schema env ps (c ∷ rest)) (sym there) (condition, h)));
  }

  pub all_there : (i : ℕ) (cs : List Condition) → length items ≤ i → HaveConditions i cs → AreConditions schema env (policies items) cs
  all_there i cs le have = subst (AreConditions schema env (policies items)) (append-nil cs) (have.on [] (subst (λ ps. AreConditions schema env ps []) (sym (at_drop_all policies items i le)) tt))

-- what only the one set has, with its conditions
module _ (schema : SchemaData) (env : EnvData) (others : PolicySetData) where
  pub gathered : (ps os : List PolicyData) (g : AreOwn others ps os) (cs : List Condition) → AreConditions schema env os cs → AreConditionsBut schema env others ps cs
  gathered _ _ none [] h = but.none
  gathered _ _ none (c ∷ cs) h = absurd h
  gathered _ _ (shared {p = p} {ps = ps} {os = os} s g) cs h = but.shared s (gathered ps os g cs h)
  gathered _ _ (own {p = p} {ps = ps} {os = os} n g) [] h = absurd h
  gathered _ _ (own {p = p} {ps = ps} {os = os} n g) (c ∷ cs) h = but.own h.0 (gathered ps os g cs h.1)
