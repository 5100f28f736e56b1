use Rattle.std.proofs.Common.{subst}
use Rattle.policy_set.specs.PolicySet.{IsPolicySet}
use Rattle.policy_set.proofs.policy_set.is_policy_set.Goals as goal

pub returns : goal.returns
returns c = subst IsPolicySet c.set.view_is c.set.invariant.whole
