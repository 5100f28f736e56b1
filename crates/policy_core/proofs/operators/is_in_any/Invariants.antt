use Rattle.std.proofs.Common.{◌≡◌, drop}
use Rattle.policy_values.specs.Value.{vals_of}
use Rattle.policy_core.specs.Operators.{within_any, or_within}
use Rattle.policy_core.proofs.operators.is_in_any.Given as goal

abbrev pub invariant-loop-y : goal.invariant-loop-y
invariant-loop-y l =
    or_within l.found (within_any l.x (vals_of (drop l.y-index l.ys.items)) l.entities) ≡ within_any l.x (vals_of l.ys.items) l.entities
