use Rattle.policy_review.proofs.Steps.{IsGoingOver}
use Rattle.policy_review.proofs.matrix.add_policies.Given as goal

abbrev pub invariant-loop-policy : goal.invariant-loop-policy
invariant-loop-policy l = IsGoingOver l.schema l.policies l.fn.matrix.items l.fn.levels.entries l.matrix.items l.levels.entries l.policy-iterator
