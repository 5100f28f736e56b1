-- Edits of policies: what only one of two sets has, and the conditions of that.
use Rattle.std.specs.Prelude.{List, [], ◌∷◌, map}
use Rattle.std.specs.Map.Iter.{deref}
use Rattle.schema_core.specs.EnvData.{EnvData}
use Rattle.schema_core.specs.Schema.{SchemaData}
use Rattle.policy_set.specs.Data.{PolicyData}
use Rattle.policy_set.specs.PolicySet.{PolicySetData}
use Rattle.condition_compare.specs.declared.condition.Condition.{Condition}
use Rattle.policy_compare.specs.Conditions.{IsShared, IsConditionOf}
use Rattle.policy_compare.specs.declared.edit.Edit.{Edit}

-- the policies, in their order, but for those that the other set has, too
pub data AreOwn (others : PolicySetData) : List PolicyData → List PolicyData → Type 0 where
  none : AreOwn others [] []
  shared : {p : PolicyData} {ps os : List PolicyData} → IsShared others p → AreOwn others ps os →
      AreOwn others (p ∷ ps) os
  own : {p : PolicyData} {ps os : List PolicyData} → ¬ IsShared others p → AreOwn others ps os →
      AreOwn others (p ∷ ps) (p ∷ os)

-- what only the one has, and what only the other has
pub record IsEdit (e : Edit) : Type 0 where
  pub removed : AreOwn e.after.now e.before.now.policies (map deref e.removed.items)
  pub added : AreOwn e.before.now e.after.now.policies (map deref e.added.items)

-- the conditions are those of the policies, typed in the environment, one for each
abbrev pub AreConditions : SchemaData → EnvData → List PolicyData → List Condition → Type 0
AreConditions schema env [] [] = Unit {0}
AreConditions schema env (p ∷ ps) (c ∷ cs) = IsConditionOf schema env p c × AreConditions schema env ps cs
AreConditions schema env ps cs = ⊥
