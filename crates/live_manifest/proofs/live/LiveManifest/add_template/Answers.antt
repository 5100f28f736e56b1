use Rattle.std.proofs.Common.{◌≡◌, arith, ap, length, ◌∙◌}
use Rattle.link_spec.specs.Linked.{linked_envs}
use Rattle.live_manifest.specs.Kept.{LiveData}
use Rattle.live_manifest.proofs.Outcomes.{template_free, template_is_taken, template_outcome, template_steps}
use Rattle.live_manifest.proofs.live.LiveManifest.add_template.Goals as goal

pub settle_entry-requires-clause-taken : goal.settle_entry-requires-clause-taken
settle_entry-requires-clause-taken g c =
    template_is_taken c.args.self.now.schema c.self.inside.policies c.add_template.new.self c.args.template c.in-Ok.id (c.in-Ok.ensures ∙ c.id.ensures) c.in_default.ensures.answer.0 c.in_default.ensures.answer.1

pub settle_entry-requires-clause-removable : goal.settle_entry-requires-clause-removable
settle_entry-requires-clause-removable g c =
    template_free c.args.self.now.schema c.self.inside.policies c.add_template.new.self c.args.template c.in-Ok.id (c.in-Ok.ensures ∙ c.id.ensures) c.in_default.ensures.answer.0 c.in_default.ensures.answer.1 c.is_policy_set.ensures

pub invariant_of-self-2 : goal.invariant_of-self-2
invariant_of-self-2 g c =
    (template_outcome c.self.inside.schema.now c.self.inside.policies c.add_template.new.self c.args.template c.in-Ok.id (c.in-Ok.ensures ∙ c.id.ensures) c.in_default.ensures.answer.0 c.in_default.ensures.answer.1
    c.edits_keep_acceptance.ensures c.is_policy_set.ensures c.self.inside.manifest c.self.inside.tries c.args.self.now c.self.view_is c.self.invariant.0 c.self.invariant.1 c.settle_entry.new.policies c.settle_entry.result
    c.settle_entry.ensures.found c.settle_entry.ensures.kept c.settle_entry.ensures.refused c.settle_entry.ensures.taken_back).kept

pub returns-clause-made : goal.returns-clause-made
returns-clause-made g c =
    (template_outcome c.self.inside.schema.now c.self.inside.policies c.add_template.new.self c.args.template c.in-Ok.id (c.in-Ok.ensures ∙ c.id.ensures) c.in_default.ensures.answer.0 c.in_default.ensures.answer.1
    c.edits_keep_acceptance.ensures c.is_policy_set.ensures c.self.inside.manifest c.self.inside.tries c.args.self.now c.self.view_is c.self.invariant.0 c.self.invariant.1 c.settle_entry.new.policies c.settle_entry.result
    c.settle_entry.ensures.found c.settle_entry.ensures.kept c.settle_entry.ensures.refused c.settle_entry.ensures.taken_back).made

pub returns-clause-refused : goal.returns-clause-refused
returns-clause-refused g c =
    (template_outcome c.self.inside.schema.now c.self.inside.policies c.add_template.new.self c.args.template c.in-Ok.id (c.in-Ok.ensures ∙ c.id.ensures) c.in_default.ensures.answer.0 c.in_default.ensures.answer.1
    c.edits_keep_acceptance.ensures c.is_policy_set.ensures c.self.inside.manifest c.self.inside.tries c.args.self.now c.self.view_is c.self.invariant.0 c.self.invariant.1 c.settle_entry.new.policies c.settle_entry.result
    c.settle_entry.ensures.found c.settle_entry.ensures.kept c.settle_entry.ensures.refused c.settle_entry.ensures.taken_back).refused

pub returns-clause-unchanged : goal.returns-clause-unchanged
returns-clause-unchanged g c =
    (template_outcome c.self.inside.schema.now c.self.inside.policies c.add_template.new.self c.args.template c.in-Ok.id (c.in-Ok.ensures ∙ c.id.ensures) c.in_default.ensures.answer.0 c.in_default.ensures.answer.1
    c.edits_keep_acceptance.ensures c.is_policy_set.ensures c.self.inside.manifest c.self.inside.tries c.args.self.now c.self.view_is c.self.invariant.0 c.self.invariant.1 c.settle_entry.new.policies c.settle_entry.result
    c.settle_entry.ensures.found c.settle_entry.ensures.kept c.settle_entry.ensures.refused c.settle_entry.ensures.taken_back).unchanged

pub returns-clause-steps : goal.returns-clause-steps
returns-clause-steps g c =
    let same : length (linked_envs c.self.inside.schema.now c.args.template) ≡ length (linked_envs c.args.self.now.schema c.args.template) = ap (λ (l : LiveData). length (linked_envs l.schema c.args.template)) c.self.view_is in
    let entry = template_steps c.self.inside.schema.now c.self.inside.policies c.add_template.new.self c.args.template c.in-Ok.id (c.in-Ok.ensures ∙ c.id.ensures) c.in_default.ensures.answer.0 c.in_default.ensures.answer.1 in
    omega (arith, same, entry, c.settle_entry.ensures.steps)
