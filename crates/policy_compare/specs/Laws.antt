-- What is found of conditions holds of decisions.
use Rattle.std.specs.Prelude.{List}
use Rattle.schema_core.specs.EnvData.{EnvData}
use Rattle.schema_core.specs.Schema.{SchemaData}
use Rattle.policy_set.specs.PolicySet.{PolicySetData}
use Rattle.condition_compare.specs.Decisions.{AllowsAtMost as ConditionsAllowAtMost}
use Rattle.condition_compare.specs.declared.condition.Condition.{Condition}
use Rattle.policy_compare.specs.Compared.{AllowsAtMost}
use Rattle.policy_compare.specs.Conditions.{AreConditionsBut}

-- where the conditions of one set, but for policies of both, allow at most what those of another allow, so do
-- the policies; both ways round
abbrev pub ComparisonHolds : Type 0
ComparisonHolds =
    (schema : SchemaData) (env : EnvData) (before after : PolicySetData) (old new : List Condition) →
    AreConditionsBut schema env after before.policies old →
    AreConditionsBut schema env before after.policies new →
    (ConditionsAllowAtMost old new → AllowsAtMost schema env before.policies after.policies)
    × (ConditionsAllowAtMost new old → AllowsAtMost schema env after.policies before.policies)
