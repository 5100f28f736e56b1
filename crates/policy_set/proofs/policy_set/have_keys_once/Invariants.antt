use Rattle.policy_set.specs.PolicySet.{AreKeyedOnce}
use Rattle.policy_set.proofs.policy_set.have_keys_once.Given as goal

-- what is left is still to be looked at
abbrev pub invariant-loop-policy : goal.invariant-loop-policy
invariant-loop-policy l = AreKeyedOnce l.policy-iterator → AreKeyedOnce l.set.policies
