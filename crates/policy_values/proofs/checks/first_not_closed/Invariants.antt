use Rattle.std.specs.Map.{keys_of}
use Rattle.policy_values.specs.Reaches.{IsNotClosed}
use Rattle.policy_values.proofs.Least.{IsRest}
use Rattle.policy_values.proofs.checks.first_not_closed.Given as goal

abbrev pub invariant-loop-key : goal.invariant-loop-key
invariant-loop-key g l = IsRest g.K.Ord.cmp (IsNotClosed g.K.Ord.cmp l.steps.entries) (keys_of l.key-iterator)
