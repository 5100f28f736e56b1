use Rattle.std.proofs.Common.{Contains, ◌⊎◌}
use Rattle.policy_values.specs.ClosureSteps.{IsEmptyAt}
use Rattle.policy_values.proofs.closure.lead_nowhere.Given as goal

abbrev pub invariant-loop-key : goal.invariant-loop-key
invariant-loop-key g l = (m : g.row.K.Denot) → Contains l.keys.keys m → Contains l.key-iterator m ⊎ IsEmptyAt g.K.Ord.cmp l.closed.entries m
