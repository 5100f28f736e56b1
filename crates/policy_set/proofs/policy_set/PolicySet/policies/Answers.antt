use Rattle.std.proofs.Common.{map, subst}
use Rattle.std.specs.List.{AllByRecursion}
use Rattle.std.specs.List.Sorted.{IsStrictlySortedBy}
use Rattle.policy_values.specs.Uid.{text_cmp}
use Rattle.policy_set.specs.Condition.{IsPolicy}
use Rattle.policy_set.proofs.policy_set.PolicySet.policies.Goals as goal

pub returns-clause-ascending : goal.returns-clause-ascending
returns-clause-ascending c = subst (λ s. IsStrictlySortedBy text_cmp (map (λ p. p.id) s.policies)) c.self.view_is c.self.invariant.whole.policy_ids

pub returns-clause-policies : goal.returns-clause-policies
returns-clause-policies c = subst (λ s. AllByRecursion IsPolicy s.policies) c.self.view_is c.self.invariant.whole.policies
