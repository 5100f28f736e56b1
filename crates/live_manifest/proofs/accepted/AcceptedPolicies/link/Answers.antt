use Rattle.std.proofs.Common.{◌≡◌, arith, ap, length, sym, ◌∙◌}
use Rattle.schema_core.specs.EnvData.{unlinked_envs}
use Rattle.policy_set.specs.Links.{linked_policy}
use Rattle.policy_set.specs.PolicySet.{id_fault, link_fault, slot_values, template_at, template_fault, with_policy}
use Rattle.policy_validate.specs.Entries.{findings_of_policy}
use Rattle.live_manifest.specs.Edits.{link, link_findings, or_findings, with_link}
use Rattle.live_manifest.specs.Kept.{EditedData}
use Rattle.live_manifest.proofs.Edited.{edit_outcome}
use Rattle.live_manifest.proofs.Outcomes.{first_none, policy_back, policy_found, policy_is_taken, policy_is_there, policy_steps, some_of, some_removed}
use Rattle.live_manifest.proofs.Taking.{free_of}
use Rattle.live_manifest.proofs.accepted.AcceptedPolicies.link.Goals as goal

pub settle_entry-requires-clause-taken : goal.settle_entry-requires-clause-taken
settle_entry-requires-clause-taken g c =
    let s = c.self.inside.policies in
    let w = some_of (template_at s c.args.template_id.now) (λ t. c.link.new.self ≡ with_policy (linked_policy c.args.new_id (slot_values c.args.values.items) t) s) c.in_default.ensures.answer.1 in
    let free = free_of s c.args.new_id (first_none (id_fault s c.args.new_id) (template_fault (template_at s c.args.template_id.now) c.args.template_id.now c.args.values.items) c.in_default.ensures.answer.0) in
    policy_is_taken c.self.inside.schema.now s c.link.new.self (linked_policy c.args.new_id (slot_values c.args.values.items) w.0) c.in-Ok.id c.in-Ok.ensures free w.1.1

pub settle_entry-requires-clause-removable : goal.settle_entry-requires-clause-removable
settle_entry-requires-clause-removable g c =
    let s = c.self.inside.policies in
    let w = some_of (template_at s c.args.template_id.now) (λ t. c.link.new.self ≡ with_policy (linked_policy c.args.new_id (slot_values c.args.values.items) t) s) c.in_default.ensures.answer.1 in
    let free = free_of s c.args.new_id (first_none (id_fault s c.args.new_id) (template_fault (template_at s c.args.template_id.now) c.args.template_id.now c.args.values.items) c.in_default.ensures.answer.0) in
    some_removed c.link.new.self c.is_policy_set-2.ensures c.in-Ok.id (policy_is_there c.self.inside.schema.now s c.link.new.self (linked_policy c.args.new_id (slot_values c.args.values.items) w.0) c.in-Ok.id c.in-Ok.ensures free w.1.1)

pub invariant_of-self-2 : goal.invariant_of-self-2
invariant_of-self-2 g c =
    let s = c.self.inside.policies in
    let w = some_of (template_at s c.args.template_id.now) (λ t. c.link.new.self ≡ with_policy (linked_policy c.args.new_id (slot_values c.args.values.items) t) s) c.in_default.ensures.answer.1 in
    let free = free_of s c.args.new_id (first_none (id_fault s c.args.new_id) (template_fault (template_at s c.args.template_id.now) c.args.template_id.now c.args.values.items) c.in_default.ensures.answer.0) in
    (edit_outcome c.edits_keep_acceptance.ensures c.self.inside.schema.now s c.is_policy_set.ensures c.self.invariant c.args.self.now c.self.view_is
    (link c.args.template_id.now c.args.new_id c.args.values.items) c.link.new.self c.in-Ok.id (ap (λ o. with_link o c.args.new_id c.args.values.items s) w.1.0 ∙ sym w.1.1) (policy_back c.self.inside.schema.now s c.link.new.self (linked_policy c.args.new_id (slot_values c.args.values.items) w.0) c.in-Ok.id c.in-Ok.ensures free w.1.1)
    (link_fault s c.args.template_id.now c.args.new_id c.args.values.items) (findings_of_policy c.self.inside.schema.now (linked_policy c.args.new_id (slot_values c.args.values.items) w.0)) (policy_found c.self.inside.schema.now s c.link.new.self (linked_policy c.args.new_id (slot_values c.args.values.items) w.0) c.in-Ok.id c.in-Ok.ensures free w.1.1)
    (ap (λ o. or_findings (link_fault s c.args.template_id.now c.args.new_id c.args.values.items) (link_findings c.self.inside.schema.now o c.args.new_id c.args.values.items)) w.1.0) c.in_default.ensures.answer.0
    c.settle_entry.new.policies c.settle_entry.result
    c.settle_entry.ensures.found c.settle_entry.ensures.kept c.settle_entry.ensures.refused c.settle_entry.ensures.taken_back).accepted

pub returns-clause-made : goal.returns-clause-made
returns-clause-made g c =
    let s = c.self.inside.policies in
    let w = some_of (template_at s c.args.template_id.now) (λ t. c.link.new.self ≡ with_policy (linked_policy c.args.new_id (slot_values c.args.values.items) t) s) c.in_default.ensures.answer.1 in
    let free = free_of s c.args.new_id (first_none (id_fault s c.args.new_id) (template_fault (template_at s c.args.template_id.now) c.args.template_id.now c.args.values.items) c.in_default.ensures.answer.0) in
    (edit_outcome c.edits_keep_acceptance.ensures c.self.inside.schema.now s c.is_policy_set.ensures c.self.invariant c.args.self.now c.self.view_is
    (link c.args.template_id.now c.args.new_id c.args.values.items) c.link.new.self c.in-Ok.id (ap (λ o. with_link o c.args.new_id c.args.values.items s) w.1.0 ∙ sym w.1.1) (policy_back c.self.inside.schema.now s c.link.new.self (linked_policy c.args.new_id (slot_values c.args.values.items) w.0) c.in-Ok.id c.in-Ok.ensures free w.1.1)
    (link_fault s c.args.template_id.now c.args.new_id c.args.values.items) (findings_of_policy c.self.inside.schema.now (linked_policy c.args.new_id (slot_values c.args.values.items) w.0)) (policy_found c.self.inside.schema.now s c.link.new.self (linked_policy c.args.new_id (slot_values c.args.values.items) w.0) c.in-Ok.id c.in-Ok.ensures free w.1.1)
    (ap (λ o. or_findings (link_fault s c.args.template_id.now c.args.new_id c.args.values.items) (link_findings c.self.inside.schema.now o c.args.new_id c.args.values.items)) w.1.0) c.in_default.ensures.answer.0
    c.settle_entry.new.policies c.settle_entry.result
    c.settle_entry.ensures.found c.settle_entry.ensures.kept c.settle_entry.ensures.refused c.settle_entry.ensures.taken_back).made

pub returns-clause-refused : goal.returns-clause-refused
returns-clause-refused g c =
    let s = c.self.inside.policies in
    let w = some_of (template_at s c.args.template_id.now) (λ t. c.link.new.self ≡ with_policy (linked_policy c.args.new_id (slot_values c.args.values.items) t) s) c.in_default.ensures.answer.1 in
    let free = free_of s c.args.new_id (first_none (id_fault s c.args.new_id) (template_fault (template_at s c.args.template_id.now) c.args.template_id.now c.args.values.items) c.in_default.ensures.answer.0) in
    (edit_outcome c.edits_keep_acceptance.ensures c.self.inside.schema.now s c.is_policy_set.ensures c.self.invariant c.args.self.now c.self.view_is
    (link c.args.template_id.now c.args.new_id c.args.values.items) c.link.new.self c.in-Ok.id (ap (λ o. with_link o c.args.new_id c.args.values.items s) w.1.0 ∙ sym w.1.1) (policy_back c.self.inside.schema.now s c.link.new.self (linked_policy c.args.new_id (slot_values c.args.values.items) w.0) c.in-Ok.id c.in-Ok.ensures free w.1.1)
    (link_fault s c.args.template_id.now c.args.new_id c.args.values.items) (findings_of_policy c.self.inside.schema.now (linked_policy c.args.new_id (slot_values c.args.values.items) w.0)) (policy_found c.self.inside.schema.now s c.link.new.self (linked_policy c.args.new_id (slot_values c.args.values.items) w.0) c.in-Ok.id c.in-Ok.ensures free w.1.1)
    (ap (λ o. or_findings (link_fault s c.args.template_id.now c.args.new_id c.args.values.items) (link_findings c.self.inside.schema.now o c.args.new_id c.args.values.items)) w.1.0) c.in_default.ensures.answer.0
    c.settle_entry.new.policies c.settle_entry.result
    c.settle_entry.ensures.found c.settle_entry.ensures.kept c.settle_entry.ensures.refused c.settle_entry.ensures.taken_back).refused

pub returns-clause-unchanged : goal.returns-clause-unchanged
returns-clause-unchanged g c =
    let s = c.self.inside.policies in
    let w = some_of (template_at s c.args.template_id.now) (λ t. c.link.new.self ≡ with_policy (linked_policy c.args.new_id (slot_values c.args.values.items) t) s) c.in_default.ensures.answer.1 in
    let free = free_of s c.args.new_id (first_none (id_fault s c.args.new_id) (template_fault (template_at s c.args.template_id.now) c.args.template_id.now c.args.values.items) c.in_default.ensures.answer.0) in
    (edit_outcome c.edits_keep_acceptance.ensures c.self.inside.schema.now s c.is_policy_set.ensures c.self.invariant c.args.self.now c.self.view_is
    (link c.args.template_id.now c.args.new_id c.args.values.items) c.link.new.self c.in-Ok.id (ap (λ o. with_link o c.args.new_id c.args.values.items s) w.1.0 ∙ sym w.1.1) (policy_back c.self.inside.schema.now s c.link.new.self (linked_policy c.args.new_id (slot_values c.args.values.items) w.0) c.in-Ok.id c.in-Ok.ensures free w.1.1)
    (link_fault s c.args.template_id.now c.args.new_id c.args.values.items) (findings_of_policy c.self.inside.schema.now (linked_policy c.args.new_id (slot_values c.args.values.items) w.0)) (policy_found c.self.inside.schema.now s c.link.new.self (linked_policy c.args.new_id (slot_values c.args.values.items) w.0) c.in-Ok.id c.in-Ok.ensures free w.1.1)
    (ap (λ o. or_findings (link_fault s c.args.template_id.now c.args.new_id c.args.values.items) (link_findings c.self.inside.schema.now o c.args.new_id c.args.values.items)) w.1.0) c.in_default.ensures.answer.0
    c.settle_entry.new.policies c.settle_entry.result
    c.settle_entry.ensures.found c.settle_entry.ensures.kept c.settle_entry.ensures.refused c.settle_entry.ensures.taken_back).unchanged

pub returns-clause-steps : goal.returns-clause-steps
returns-clause-steps g c =
    let s = c.self.inside.policies in
    let w = some_of (template_at s c.args.template_id.now) (λ t. c.link.new.self ≡ with_policy (linked_policy c.args.new_id (slot_values c.args.values.items) t) s) c.in_default.ensures.answer.1 in
    let free = free_of s c.args.new_id (first_none (id_fault s c.args.new_id) (template_fault (template_at s c.args.template_id.now) c.args.template_id.now c.args.values.items) c.in_default.ensures.answer.0) in
    let same : length (unlinked_envs c.self.inside.schema.now) ≡ length (unlinked_envs c.args.self.now.schema) = ap (λ (l : EditedData). length (unlinked_envs l.schema)) c.self.view_is in
    let entry = policy_steps c.self.inside.schema.now s c.link.new.self (linked_policy c.args.new_id (slot_values c.args.values.items) w.0) c.in-Ok.id c.in-Ok.ensures free w.1.1 in
    omega (arith, same, entry, c.settle_entry.ensures.steps)
