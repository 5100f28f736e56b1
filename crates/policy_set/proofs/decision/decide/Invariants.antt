use Rattle.std.proofs.Common.{◌≡◌, ◌++◌}
use Rattle.policy_set.specs.Response.{true_permits, true_forbids, failures}
use Rattle.policy_set.proofs.decision.decide.Given as goal

-- those so far, and then those of what is left
abbrev pub invariant-loop-policy : goal.invariant-loop-policy
invariant-loop-policy l = record {
  permits : l.permits.items ++ true_permits l.request l.entities l.policy-iterator ≡ true_permits l.request l.entities l.policies.policies;
  forbids : l.forbids.items ++ true_forbids l.request l.entities l.policy-iterator ≡ true_forbids l.request l.entities l.policies.policies;
  failures : l.failures.items ++ failures l.request l.entities l.policy-iterator ≡ failures l.request l.entities l.policies.policies;
}
