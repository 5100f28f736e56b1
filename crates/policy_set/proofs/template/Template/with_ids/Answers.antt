use Rattle.std.proofs.Common.{◌∙◌, ap}
use Rattle.policy_set.specs.Condition.{template_with}
use Rattle.policy_set.specs.Links.{linked, linked_of, own_condition}
use Rattle.policy_set.proofs.Linked.{copied, copied_condition, copied_keeps}
use Rattle.policy_set.proofs.template.Template.with_ids.Goals as goal

pub invariant_of-result : goal.invariant_of-result
invariant_of-result c =
    let t = template_with c.self.inside.id c.self.inside.effect c.self.inside.principal_constraint c.self.inside.action_constraint c.self.inside.resource_constraint c.self.inside.condition in
    copied_keeps c.args.values.now t c.self.inside.condition c.self.invariant c.args.id c.in-Ok.value c.in-Ok-try_clone.value c.in-Ok-with_id.value c.in-Ok-substitute.value
    (c.in-Ok.ensures ∙ ap (λ o. linked o t.principal) c.value-principal.ensures) c.in-Ok-try_clone.ensures (c.in-Ok-with_id.ensures ∙ ap (λ o. linked o t.resource) c.value-resource.ensures) c.in-Ok-substitute.ensures

pub returns-clause-link : goal.returns-clause-link
returns-clause-link c =
    let t = template_with c.self.inside.id c.self.inside.effect c.self.inside.principal_constraint c.self.inside.action_constraint c.self.inside.resource_constraint c.self.inside.condition in
    copied c.args.values.now t c.self.inside.condition c.self.invariant c.args.id c.in-Ok.value c.in-Ok-try_clone.value c.in-Ok-with_id.value c.in-Ok-substitute.value
    (c.in-Ok.ensures ∙ ap (λ o. linked o t.principal) c.value-principal.ensures) c.in-Ok-try_clone.ensures (c.in-Ok-with_id.ensures ∙ ap (λ o. linked o t.resource) c.value-resource.ensures) c.in-Ok-substitute.ensures
    ∙ ap (λ t. record (linked_of c.args.values.now t) { id = c.args.id }) c.self.view_is

pub returns-clause-condition : goal.returns-clause-condition
returns-clause-condition c =
    let t = template_with c.self.inside.id c.self.inside.effect c.self.inside.principal_constraint c.self.inside.action_constraint c.self.inside.resource_constraint c.self.inside.condition in
    copied_condition c.args.values.now t c.self.inside.condition c.self.invariant c.args.id c.in-Ok.value c.in-Ok-try_clone.value c.in-Ok-with_id.value c.in-Ok-substitute.value
    (c.in-Ok.ensures ∙ ap (λ o. linked o t.principal) c.value-principal.ensures) c.in-Ok-try_clone.ensures (c.in-Ok-with_id.ensures ∙ ap (λ o. linked o t.resource) c.value-resource.ensures) c.in-Ok-substitute.ensures
    ∙ ap (own_condition c.args.values.now) c.self.view_is
