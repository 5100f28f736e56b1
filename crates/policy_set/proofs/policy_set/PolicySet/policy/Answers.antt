use Rattle.std.proofs.Common.{◌∙◌, ap}
use Rattle.policy_values.specs.Uid.{text_cmp}
use Rattle.policy_values.proofs.Keyed.{value_found}
use Rattle.policy_set.specs.PolicySet.{policy_at}
use Rattle.policy_set.proofs.policy_set.PolicySet.policy.Goals as goal

pub returns : goal.returns
returns c =
    c.get.ensures.value ∙ (value_found text_cmp (λ p. p.id) c.self.inside.policies c.self.invariant.policy_ids c.args.id.now ∙ ap (λ s. policy_at s c.args.id.now) c.self.view_is)
