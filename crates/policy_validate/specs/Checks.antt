-- What a check leaves of a condition.
use Rattle.std.specs.Prelude.{Option, Some, None}
use Rattle.typing_spec.specs.Typing.{Typed}
use Rattle.typecheck_rules.specs.Check.{Check, Success, Irrelevant, Fail, TooDeep}

-- the typed condition, where the check succeeds or finds it false
abbrev pub condition_in : Check → Option Typed
condition_in (Success t) = Some t
condition_in (Irrelevant t) = Some t
condition_in (Fail fs) = None
condition_in TooDeep = None
