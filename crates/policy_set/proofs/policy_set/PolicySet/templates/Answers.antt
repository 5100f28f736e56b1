use Rattle.std.proofs.Common.{map, subst}
use Rattle.std.specs.List.{AllByRecursion}
use Rattle.std.specs.List.Sorted.{IsStrictlySortedBy}
use Rattle.policy_values.specs.Uid.{text_cmp}
use Rattle.policy_set.specs.PolicySet.{IsToLink}
use Rattle.policy_set.proofs.policy_set.PolicySet.templates.Goals as goal

pub returns-clause-ascending : goal.returns-clause-ascending
returns-clause-ascending c = subst (λ s. IsStrictlySortedBy text_cmp (map (λ t. t.id) s.templates)) c.self.view_is c.self.invariant.whole.template_ids

pub returns-clause-templates : goal.returns-clause-templates
returns-clause-templates c = subst (λ s. AllByRecursion IsToLink s.templates) c.self.view_is c.self.invariant.whole.templates
