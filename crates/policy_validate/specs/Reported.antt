-- The typed conditions of checks, as code has them.
use Rattle.std.specs.Prelude.{Option, Some, None}
use Rattle.schema_core.specs.EnvData.{EnvData, action_in}
use Rattle.policy_typecheck.specs.declared.PolicyCheck.{PolicyCheck}
use Rattle.policy_typecheck.specs.declared.PolicyCheck.TheVariants.{Success, Irrelevant, Fail}
use Rattle.level_validate.specs.Errors.{Condition}

-- that of a check in an environment, with the action there
abbrev pub reported_by : EnvData → PolicyCheck → Option Condition
reported_by env (Success t) = Some (action_in env, t)
reported_by env (Irrelevant t) = Some (action_in env, t)
reported_by env (Fail es) = None
