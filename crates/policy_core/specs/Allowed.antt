-- The outcomes that an accepted policy may have.
use Rattle.std.specs.Prelude.{⊤}
use Rattle.policy_values.specs.Value.{truth}
use Rattle.policy_core.specs.declared.outcome.Outcome.{Outcome}
use Rattle.policy_core.specs.declared.outcome.Outcome.TheVariants.{Value, Error}
use Rattle.policy_core.specs.declared.outcome.EvalError.{EvalError}
use Rattle.policy_core.specs.declared.outcome.EvalError.TheVariants.{MissingEntity, IntegerOverflow, ExtensionOverflow}

-- an entity that is not in the store, or a number that does not fit: of an integer, or of a datetime or
-- duration
abbrev pub IsAllowedError : EvalError → Type 0
IsAllowedError (MissingEntity u) = ⊤
IsAllowedError IntegerOverflow = ⊤
IsAllowedError ExtensionOverflow = ⊤
IsAllowedError e = ⊥

-- a truth value, or an error that is allowed
abbrev pub IsAllowedOutcome : Outcome → Type 0
IsAllowedOutcome (Value (truth b)) = ⊤
IsAllowedOutcome (Value v) = ⊥
IsAllowedOutcome (Error e) = IsAllowedError e
