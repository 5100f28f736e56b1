use Rattle.std.proofs.Common.{◌≡◌, arith, ap, length, refl, ◌∙◌}
use Rattle.plain_lemmas.proofs.Booleans.{or_false_parts}
use Rattle.schema_core.specs.EnvData.{unlinked_envs}
use Rattle.policy_set.specs.Condition.{asks_slot, static_of}
use Rattle.policy_set.specs.PolicySet.{id_fault}
use Rattle.live_manifest.specs.Edits.{add_static}
use Rattle.live_manifest.specs.Kept.{LiveData}
use Rattle.live_manifest.proofs.Outcomes.{policy_is_there, policy_made, policy_refused, policy_steps}
use Rattle.live_manifest.proofs.Taking.{free_of}
use Rattle.live_manifest.proofs.live.LiveManifest.add_static.Goals as goal

pub settle-settled-requires : goal.settle-settled-requires
settle-settled-requires g c =
    policy_is_there c.self.inside.schema.now c.self.inside.policies c.add_static.new.self (static_of c.args.template) c.in-Ok.id (c.in-Ok.ensures ∙ c.id.ensures) (free_of c.self.inside.policies c.args.template.id c.in_default.ensures.answer.0) c.in_default.ensures.answer.1

pub invariant_of-self-in-Ok-settled : goal.invariant_of-self-in-Ok-settled
invariant_of-self-in-Ok-settled g c =
    (policy_made c.self.inside.schema.now c.self.inside.policies c.add_static.new.self (static_of c.args.template) c.in-Ok.id (c.in-Ok.ensures ∙ c.id.ensures) (free_of c.self.inside.policies c.args.template.id c.in_default.ensures.answer.0) c.in_default.ensures.answer.1
    c.edits_keep_acceptance.ensures c.is_policy_set.ensures c.self.inside.manifest c.self.inside.tries c.args.self.now c.self.view_is c.self.invariant.0 c.self.invariant.1
    (add_static c.args.template) refl (id_fault c.self.inside.policies c.args.template.id) refl c.in_default.ensures.answer.0
    tt c.settle-settled.new.policies c.settle-settled.new.tries c.in-Ok-settled.manifest c.in-Ok-settled.ensures.found c.in-Ok-settled.ensures.kept c.in-Ok-settled.ensures.added).kept

pub returns-in-Ok-settled-clause-made : goal.returns-in-Ok-settled-clause-made
returns-in-Ok-settled-clause-made g c =
    (policy_made c.self.inside.schema.now c.self.inside.policies c.add_static.new.self (static_of c.args.template) c.in-Ok.id (c.in-Ok.ensures ∙ c.id.ensures) (free_of c.self.inside.policies c.args.template.id c.in_default.ensures.answer.0) c.in_default.ensures.answer.1
    c.edits_keep_acceptance.ensures c.is_policy_set.ensures c.self.inside.manifest c.self.inside.tries c.args.self.now c.self.view_is c.self.invariant.0 c.self.invariant.1
    (add_static c.args.template) refl (id_fault c.self.inside.policies c.args.template.id) refl c.in_default.ensures.answer.0
    tt c.settle-settled.new.policies c.settle-settled.new.tries c.in-Ok-settled.manifest c.in-Ok-settled.ensures.found c.in-Ok-settled.ensures.kept c.in-Ok-settled.ensures.added).made

pub invariant_of-self-in-Err-settled : goal.invariant_of-self-in-Err-settled
invariant_of-self-in-Err-settled g c =
    (policy_refused c.self.inside.schema.now c.self.inside.policies c.add_static.new.self (static_of c.args.template) c.in-Ok.id (c.in-Ok.ensures ∙ c.id.ensures) (free_of c.self.inside.policies c.args.template.id c.in_default.ensures.answer.0) c.in_default.ensures.answer.1
    c.edits_keep_acceptance.ensures c.is_policy_set.ensures c.self.inside.manifest c.self.inside.tries c.args.self.now c.self.view_is c.self.invariant.0 c.self.invariant.1
    (add_static c.args.template) refl (id_fault c.self.inside.policies c.args.template.id) refl c.in_default.ensures.answer.0
    c.in-Err-settled.e c.settle-settled.new.policies c.settle-settled.new.tries c.in-Err-settled.ensures.refused c.in-Err-settled.ensures.taken_back.0 c.in-Err-settled.ensures.taken_back.1).kept

pub returns-in-Err-settled-clause-refused : goal.returns-in-Err-settled-clause-refused
returns-in-Err-settled-clause-refused g c =
    (policy_refused c.self.inside.schema.now c.self.inside.policies c.add_static.new.self (static_of c.args.template) c.in-Ok.id (c.in-Ok.ensures ∙ c.id.ensures) (free_of c.self.inside.policies c.args.template.id c.in_default.ensures.answer.0) c.in_default.ensures.answer.1
    c.edits_keep_acceptance.ensures c.is_policy_set.ensures c.self.inside.manifest c.self.inside.tries c.args.self.now c.self.view_is c.self.invariant.0 c.self.invariant.1
    (add_static c.args.template) refl (id_fault c.self.inside.policies c.args.template.id) refl c.in_default.ensures.answer.0
    c.in-Err-settled.e c.settle-settled.new.policies c.settle-settled.new.tries c.in-Err-settled.ensures.refused c.in-Err-settled.ensures.taken_back.0 c.in-Err-settled.ensures.taken_back.1).refused

pub returns-in-Err-settled-clause-unchanged : goal.returns-in-Err-settled-clause-unchanged
returns-in-Err-settled-clause-unchanged g c =
    (policy_refused c.self.inside.schema.now c.self.inside.policies c.add_static.new.self (static_of c.args.template) c.in-Ok.id (c.in-Ok.ensures ∙ c.id.ensures) (free_of c.self.inside.policies c.args.template.id c.in_default.ensures.answer.0) c.in_default.ensures.answer.1
    c.edits_keep_acceptance.ensures c.is_policy_set.ensures c.self.inside.manifest c.self.inside.tries c.args.self.now c.self.view_is c.self.invariant.0 c.self.invariant.1
    (add_static c.args.template) refl (id_fault c.self.inside.policies c.args.template.id) refl c.in_default.ensures.answer.0
    c.in-Err-settled.e c.settle-settled.new.policies c.settle-settled.new.tries c.in-Err-settled.ensures.refused c.in-Err-settled.ensures.taken_back.0 c.in-Err-settled.ensures.taken_back.1).unchanged

pub returns-in-Ok-settled-clause-steps : goal.returns-in-Ok-settled-clause-steps
returns-in-Ok-settled-clause-steps g c =
    let same : length (unlinked_envs c.self.inside.schema.now) ≡ length (unlinked_envs c.args.self.now.schema) = ap (λ (l : LiveData). length (unlinked_envs l.schema)) c.self.view_is in
    let slots = or_false_parts (asks_slot c.args.template.principal) (asks_slot c.args.template.resource) c.requires in
    let entry = policy_steps c.self.inside.schema.now c.self.inside.policies c.add_static.new.self (static_of c.args.template) c.in-Ok.id (c.in-Ok.ensures ∙ c.id.ensures) (free_of c.self.inside.policies c.args.template.id c.in_default.ensures.answer.0) c.in_default.ensures.answer.1 in
    omega (arith, same, entry, ap length (c.statics_are_unlinked.ensures c.self.inside.schema.now c.args.template slots.0 slots.1), c.settle-settled.ensures.steps)

pub returns-in-Err-settled-clause-steps : goal.returns-in-Err-settled-clause-steps
returns-in-Err-settled-clause-steps g c =
    let same : length (unlinked_envs c.self.inside.schema.now) ≡ length (unlinked_envs c.args.self.now.schema) = ap (λ (l : LiveData). length (unlinked_envs l.schema)) c.self.view_is in
    let slots = or_false_parts (asks_slot c.args.template.principal) (asks_slot c.args.template.resource) c.requires in
    let entry = policy_steps c.self.inside.schema.now c.self.inside.policies c.add_static.new.self (static_of c.args.template) c.in-Ok.id (c.in-Ok.ensures ∙ c.id.ensures) (free_of c.self.inside.policies c.args.template.id c.in_default.ensures.answer.0) c.in_default.ensures.answer.1 in
    omega (arith, same, entry, ap length (c.statics_are_unlinked.ensures c.self.inside.schema.now c.args.template slots.0 slots.1), c.settle-settled.ensures.steps)
