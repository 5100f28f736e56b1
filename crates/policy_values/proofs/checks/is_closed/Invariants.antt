use Rattle.policy_values.proofs.Subset.{IsClosedBut}
use Rattle.policy_values.proofs.checks.is_closed.Given as goal

abbrev pub invariant-loop-key : goal.invariant-loop-key
invariant-loop-key g l = IsClosedBut g.K.Ord.cmp l.steps.entries l.next.keys l.key-iterator
