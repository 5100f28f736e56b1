use Rattle.std.proofs.Common.{◌∙◌, ap}
use Rattle.policy_values.specs.Uid.{text_cmp}
use Rattle.policy_values.proofs.Keyed.{value_found}
use Rattle.policy_set.specs.PolicySet.{template_at}
use Rattle.policy_set.proofs.policy_set.PolicySet.template.Goals as goal

pub returns : goal.returns
returns c =
    c.get.ensures.value ∙ (value_found text_cmp (λ t. t.id) c.self.inside.templates c.self.invariant.template_ids c.args.id.now ∙ ap (λ s. template_at s c.args.id.now) c.self.view_is)
