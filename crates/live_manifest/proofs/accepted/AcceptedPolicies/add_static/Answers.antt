use Rattle.std.proofs.Common.{◌≡◌, arith, ap, length, refl, sym, ◌∙◌}
use Rattle.plain_lemmas.proofs.Booleans.{or_false_parts}
use Rattle.schema_core.specs.EnvData.{unlinked_envs}
use Rattle.policy_set.specs.Condition.{asks_slot, static_of}
use Rattle.policy_set.specs.PolicySet.{id_fault}
use Rattle.policy_validate.specs.Entries.{findings_of_policy}
use Rattle.live_manifest.specs.Edits.{add_static}
use Rattle.live_manifest.specs.Kept.{EditedData}
use Rattle.live_manifest.proofs.Edited.{edit_outcome}
use Rattle.live_manifest.proofs.Outcomes.{policy_back, policy_found, policy_is_taken, policy_is_there, policy_steps, some_removed}
use Rattle.live_manifest.proofs.Taking.{free_of}
use Rattle.live_manifest.proofs.accepted.AcceptedPolicies.add_static.Goals as goal

pub settle_entry-requires-clause-taken : goal.settle_entry-requires-clause-taken
settle_entry-requires-clause-taken g c =
    policy_is_taken c.self.inside.schema.now c.self.inside.policies c.add_static.new.self (static_of c.args.template) c.in-Ok.id (c.in-Ok.ensures ∙ c.id.ensures) (free_of c.self.inside.policies c.args.template.id c.in_default.ensures.answer.0) c.in_default.ensures.answer.1

pub settle_entry-requires-clause-removable : goal.settle_entry-requires-clause-removable
settle_entry-requires-clause-removable g c =
    some_removed c.add_static.new.self c.is_policy_set-2.ensures c.in-Ok.id (policy_is_there c.self.inside.schema.now c.self.inside.policies c.add_static.new.self (static_of c.args.template) c.in-Ok.id (c.in-Ok.ensures ∙ c.id.ensures) (free_of c.self.inside.policies c.args.template.id c.in_default.ensures.answer.0) c.in_default.ensures.answer.1)

pub invariant_of-self-2 : goal.invariant_of-self-2
invariant_of-self-2 g c =
    (edit_outcome c.edits_keep_acceptance.ensures c.self.inside.schema.now c.self.inside.policies c.is_policy_set.ensures c.self.invariant c.args.self.now c.self.view_is
    (add_static c.args.template) c.add_static.new.self c.in-Ok.id (sym c.in_default.ensures.answer.1) (policy_back c.self.inside.schema.now c.self.inside.policies c.add_static.new.self (static_of c.args.template) c.in-Ok.id (c.in-Ok.ensures ∙ c.id.ensures) (free_of c.self.inside.policies c.args.template.id c.in_default.ensures.answer.0) c.in_default.ensures.answer.1)
    (id_fault c.self.inside.policies c.args.template.id) (findings_of_policy c.self.inside.schema.now (static_of c.args.template)) (policy_found c.self.inside.schema.now c.self.inside.policies c.add_static.new.self (static_of c.args.template) c.in-Ok.id (c.in-Ok.ensures ∙ c.id.ensures) (free_of c.self.inside.policies c.args.template.id c.in_default.ensures.answer.0) c.in_default.ensures.answer.1) refl c.in_default.ensures.answer.0
    c.settle_entry.new.policies c.settle_entry.result
    c.settle_entry.ensures.found c.settle_entry.ensures.kept c.settle_entry.ensures.refused c.settle_entry.ensures.taken_back).accepted

pub returns-clause-made : goal.returns-clause-made
returns-clause-made g c =
    (edit_outcome c.edits_keep_acceptance.ensures c.self.inside.schema.now c.self.inside.policies c.is_policy_set.ensures c.self.invariant c.args.self.now c.self.view_is
    (add_static c.args.template) c.add_static.new.self c.in-Ok.id (sym c.in_default.ensures.answer.1) (policy_back c.self.inside.schema.now c.self.inside.policies c.add_static.new.self (static_of c.args.template) c.in-Ok.id (c.in-Ok.ensures ∙ c.id.ensures) (free_of c.self.inside.policies c.args.template.id c.in_default.ensures.answer.0) c.in_default.ensures.answer.1)
    (id_fault c.self.inside.policies c.args.template.id) (findings_of_policy c.self.inside.schema.now (static_of c.args.template)) (policy_found c.self.inside.schema.now c.self.inside.policies c.add_static.new.self (static_of c.args.template) c.in-Ok.id (c.in-Ok.ensures ∙ c.id.ensures) (free_of c.self.inside.policies c.args.template.id c.in_default.ensures.answer.0) c.in_default.ensures.answer.1) refl c.in_default.ensures.answer.0
    c.settle_entry.new.policies c.settle_entry.result
    c.settle_entry.ensures.found c.settle_entry.ensures.kept c.settle_entry.ensures.refused c.settle_entry.ensures.taken_back).made

pub returns-clause-refused : goal.returns-clause-refused
returns-clause-refused g c =
    (edit_outcome c.edits_keep_acceptance.ensures c.self.inside.schema.now c.self.inside.policies c.is_policy_set.ensures c.self.invariant c.args.self.now c.self.view_is
    (add_static c.args.template) c.add_static.new.self c.in-Ok.id (sym c.in_default.ensures.answer.1) (policy_back c.self.inside.schema.now c.self.inside.policies c.add_static.new.self (static_of c.args.template) c.in-Ok.id (c.in-Ok.ensures ∙ c.id.ensures) (free_of c.self.inside.policies c.args.template.id c.in_default.ensures.answer.0) c.in_default.ensures.answer.1)
    (id_fault c.self.inside.policies c.args.template.id) (findings_of_policy c.self.inside.schema.now (static_of c.args.template)) (policy_found c.self.inside.schema.now c.self.inside.policies c.add_static.new.self (static_of c.args.template) c.in-Ok.id (c.in-Ok.ensures ∙ c.id.ensures) (free_of c.self.inside.policies c.args.template.id c.in_default.ensures.answer.0) c.in_default.ensures.answer.1) refl c.in_default.ensures.answer.0
    c.settle_entry.new.policies c.settle_entry.result
    c.settle_entry.ensures.found c.settle_entry.ensures.kept c.settle_entry.ensures.refused c.settle_entry.ensures.taken_back).refused

pub returns-clause-unchanged : goal.returns-clause-unchanged
returns-clause-unchanged g c =
    (edit_outcome c.edits_keep_acceptance.ensures c.self.inside.schema.now c.self.inside.policies c.is_policy_set.ensures c.self.invariant c.args.self.now c.self.view_is
    (add_static c.args.template) c.add_static.new.self c.in-Ok.id (sym c.in_default.ensures.answer.1) (policy_back c.self.inside.schema.now c.self.inside.policies c.add_static.new.self (static_of c.args.template) c.in-Ok.id (c.in-Ok.ensures ∙ c.id.ensures) (free_of c.self.inside.policies c.args.template.id c.in_default.ensures.answer.0) c.in_default.ensures.answer.1)
    (id_fault c.self.inside.policies c.args.template.id) (findings_of_policy c.self.inside.schema.now (static_of c.args.template)) (policy_found c.self.inside.schema.now c.self.inside.policies c.add_static.new.self (static_of c.args.template) c.in-Ok.id (c.in-Ok.ensures ∙ c.id.ensures) (free_of c.self.inside.policies c.args.template.id c.in_default.ensures.answer.0) c.in_default.ensures.answer.1) refl c.in_default.ensures.answer.0
    c.settle_entry.new.policies c.settle_entry.result
    c.settle_entry.ensures.found c.settle_entry.ensures.kept c.settle_entry.ensures.refused c.settle_entry.ensures.taken_back).unchanged

pub returns-clause-steps : goal.returns-clause-steps
returns-clause-steps g c =
    let same : length (unlinked_envs c.self.inside.schema.now) ≡ length (unlinked_envs c.args.self.now.schema) = ap (λ (l : EditedData). length (unlinked_envs l.schema)) c.self.view_is in
    let slots = or_false_parts (asks_slot c.args.template.principal) (asks_slot c.args.template.resource) c.requires in
    let entry = policy_steps c.self.inside.schema.now c.self.inside.policies c.add_static.new.self (static_of c.args.template) c.in-Ok.id (c.in-Ok.ensures ∙ c.id.ensures) (free_of c.self.inside.policies c.args.template.id c.in_default.ensures.answer.0) c.in_default.ensures.answer.1 in
    omega (arith, same, entry, ap length (c.statics_are_unlinked.ensures c.self.inside.schema.now c.args.template slots.0 slots.1), c.settle_entry.ensures.steps)
