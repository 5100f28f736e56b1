-- Which sets of policies are accepted, by what is tested of them and by the conditions that checks leave.
use Rattle.std.specs.Prelude.{◌≡◌, ◌↔◌, List, length, IsTrue}
use Rattle.std.specs.List.{AllByRecursion}
use Rattle.schema_core.specs.EnvData.{EnvData, unlinked_envs}
use Rattle.schema_core.specs.Faults.{IsSchema}
use Rattle.schema_core.specs.Schema.{SchemaData}
use Rattle.policy_set.specs.Data.{PolicyData}
use Rattle.policy_set.specs.PolicySet.{PolicySetData, IsPolicySet}
use Rattle.policy_validate.specs.Accepted.{IsAccepted}
use Rattle.policy_validate.specs.Found.{found_conditions}
use Rattle.policy_validate.specs.Rules.{keep_rules}

-- the check of each policy's condition leaves it, in the environment
abbrev pub LeavesAll : SchemaData → List PolicyData → EnvData → Type 0
LeavesAll schema ps env = length (found_conditions schema env ps) ≡ length ps

-- a set is accepted exactly where it keeps the rules, and checks leave the condition of each policy in every
-- environment of the schema
abbrev pub AcceptedByRules : Type 0
AcceptedByRules =
    (schema : SchemaData) → IsSchema schema → (s : PolicySetData) → IsPolicySet s →
    (IsTrue (keep_rules schema s) × AllByRecursion (LeavesAll schema s.policies) (unlinked_envs schema)) ↔
    IsAccepted schema s
