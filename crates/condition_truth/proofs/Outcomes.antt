-- Truth values, and outcomes that are no allowed error.
use Rattle.std.specs.Prelude.{true, false}
use Rattle.policy_values.specs.Value.{truth}
use Rattle.policy_core.specs.Allowed.{IsAllowedError}
use Rattle.policy_core.specs.declared.outcome.Outcome.{Outcome}
use Rattle.policy_core.specs.declared.outcome.Outcome.TheVariants.{Value, Error}

abbrev pub Yes : Outcome
Yes = Value (truth true)

abbrev pub No : Outcome
No = Value (truth false)

-- a value, or an error that no conforming request and store give
abbrev pub Quiet : Outcome → Type 0
Quiet (Value v) = Unit {0}
Quiet (Error e) = IsAllowedError e → ⊥
