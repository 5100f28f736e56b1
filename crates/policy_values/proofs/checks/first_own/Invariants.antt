use Rattle.policy_values.specs.Reaches.{Leads}
use Rattle.policy_values.proofs.Least.{IsRest}
use Rattle.std.specs.Map.{keys_of}
use Rattle.policy_values.proofs.checks.first_own.Given as goal

abbrev pub invariant-loop-key : goal.invariant-loop-key
invariant-loop-key g l = IsRest g.K.Ord.cmp (λ q. Leads g.K.Ord.cmp l.steps.entries q q) (keys_of l.key-iterator)
