use Rattle.std.proofs.Common.{◌≡◌, ◌++◌, map}
use Rattle.std.specs.Prelude.{filter}
use Rattle.std.specs.Map.Iter.{deref}
use Rattle.policy_set.specs.PolicySet.{is_link, links}
use Rattle.policy_set.proofs.policy_set.PolicySet.links.Given as goal

-- those so far, and then those among what is left
abbrev pub invariant-loop-policy : goal.invariant-loop-policy
invariant-loop-policy l = map deref l.links.items ++ filter is_link l.policy-iterator ≡ links l.self
