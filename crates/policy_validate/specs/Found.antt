-- What checks of conditions leave.
use Rattle.std.specs.Prelude.{List, Option, Some, None}
use Rattle.std.specs.List.{filter_map}
use Rattle.schema_core.specs.EnvData.{EnvData}
use Rattle.schema_core.specs.Schema.{SchemaData}
use Rattle.typing_spec.specs.Typing.{Typed}
use Rattle.policy_set.specs.Data.{PolicyData}
use Rattle.typecheck_rules.specs.Check.{checked}
use Rattle.policy_typecheck.specs.declared.PolicyCheck.{PolicyCheck}
use Rattle.policy_typecheck.specs.declared.PolicyCheck.TheVariants.{Success, Irrelevant, Fail}
pub use Rattle.policy_validate.specs.Checks.{condition_in}

-- the typed condition of a check in code
abbrev pub condition_reported : PolicyCheck → Option Typed
condition_reported (Success t) = Some t
condition_reported (Irrelevant t) = Some t
condition_reported (Fail es) = None

-- of all policies
abbrev pub found_conditions : SchemaData → EnvData → List PolicyData → List Typed
found_conditions schema env ps = filter_map (λ p. condition_in (checked schema env p.condition)) ps
