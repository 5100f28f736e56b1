use Rattle.std.proofs.Common.{◌≡◌, arith, ap, length}
use Rattle.schema_core.specs.EnvData.{unlinked_envs}
use Rattle.policy_set.specs.Links.{linked_policy}
use Rattle.policy_set.specs.PolicySet.{id_fault, link_fault, slot_values, template_at, template_fault, with_policy}
use Rattle.live_manifest.specs.Edits.{link, link_findings, or_findings, with_link}
use Rattle.live_manifest.specs.Kept.{LiveData}
use Rattle.live_manifest.proofs.Outcomes.{first_none, policy_is_there, policy_made, policy_refused, policy_steps, some_of}
use Rattle.live_manifest.proofs.Taking.{free_of}
use Rattle.live_manifest.proofs.live.LiveManifest.link.Goals as goal

pub settle-settled-requires : goal.settle-settled-requires
settle-settled-requires g c =
    let s = c.self.inside.policies in
    let w = some_of (template_at s c.args.template_id.now) (λ t. c.link.new.self ≡ with_policy (linked_policy c.args.new_id (slot_values c.args.values.items) t) s) c.in_default.ensures.answer.1 in
    let fault = link_fault s c.args.template_id.now c.args.new_id c.args.values.items in
    let free = free_of s c.args.new_id (first_none (id_fault s c.args.new_id) (template_fault (template_at s c.args.template_id.now) c.args.template_id.now c.args.values.items) c.in_default.ensures.answer.0) in
    policy_is_there c.self.inside.schema.now c.self.inside.policies c.link.new.self (linked_policy c.args.new_id (slot_values c.args.values.items) w.0) c.in-Ok.id c.in-Ok.ensures free w.1.1

pub invariant_of-self-in-Ok-settled : goal.invariant_of-self-in-Ok-settled
invariant_of-self-in-Ok-settled g c =
    let s = c.self.inside.policies in
    let w = some_of (template_at s c.args.template_id.now) (λ t. c.link.new.self ≡ with_policy (linked_policy c.args.new_id (slot_values c.args.values.items) t) s) c.in_default.ensures.answer.1 in
    let fault = link_fault s c.args.template_id.now c.args.new_id c.args.values.items in
    let free = free_of s c.args.new_id (first_none (id_fault s c.args.new_id) (template_fault (template_at s c.args.template_id.now) c.args.template_id.now c.args.values.items) c.in_default.ensures.answer.0) in
    (policy_made c.self.inside.schema.now c.self.inside.policies c.link.new.self (linked_policy c.args.new_id (slot_values c.args.values.items) w.0) c.in-Ok.id c.in-Ok.ensures free w.1.1
    c.edits_keep_acceptance.ensures c.is_policy_set.ensures c.self.inside.manifest c.self.inside.tries c.args.self.now c.self.view_is c.self.invariant.0 c.self.invariant.1
    (link c.args.template_id.now c.args.new_id c.args.values.items) (ap (λ o. with_link o c.args.new_id c.args.values.items c.self.inside.policies) w.1.0) fault
    (ap (λ o. or_findings fault (link_findings c.self.inside.schema.now o c.args.new_id c.args.values.items)) w.1.0) c.in_default.ensures.answer.0
    tt c.settle-settled.new.policies c.settle-settled.new.tries c.in-Ok-settled.manifest c.in-Ok-settled.ensures.found c.in-Ok-settled.ensures.kept c.in-Ok-settled.ensures.added).kept

pub returns-in-Ok-settled-clause-made : goal.returns-in-Ok-settled-clause-made
returns-in-Ok-settled-clause-made g c =
    let s = c.self.inside.policies in
    let w = some_of (template_at s c.args.template_id.now) (λ t. c.link.new.self ≡ with_policy (linked_policy c.args.new_id (slot_values c.args.values.items) t) s) c.in_default.ensures.answer.1 in
    let fault = link_fault s c.args.template_id.now c.args.new_id c.args.values.items in
    let free = free_of s c.args.new_id (first_none (id_fault s c.args.new_id) (template_fault (template_at s c.args.template_id.now) c.args.template_id.now c.args.values.items) c.in_default.ensures.answer.0) in
    (policy_made c.self.inside.schema.now c.self.inside.policies c.link.new.self (linked_policy c.args.new_id (slot_values c.args.values.items) w.0) c.in-Ok.id c.in-Ok.ensures free w.1.1
    c.edits_keep_acceptance.ensures c.is_policy_set.ensures c.self.inside.manifest c.self.inside.tries c.args.self.now c.self.view_is c.self.invariant.0 c.self.invariant.1
    (link c.args.template_id.now c.args.new_id c.args.values.items) (ap (λ o. with_link o c.args.new_id c.args.values.items c.self.inside.policies) w.1.0) fault
    (ap (λ o. or_findings fault (link_findings c.self.inside.schema.now o c.args.new_id c.args.values.items)) w.1.0) c.in_default.ensures.answer.0
    tt c.settle-settled.new.policies c.settle-settled.new.tries c.in-Ok-settled.manifest c.in-Ok-settled.ensures.found c.in-Ok-settled.ensures.kept c.in-Ok-settled.ensures.added).made

pub invariant_of-self-in-Err-settled : goal.invariant_of-self-in-Err-settled
invariant_of-self-in-Err-settled g c =
    let s = c.self.inside.policies in
    let w = some_of (template_at s c.args.template_id.now) (λ t. c.link.new.self ≡ with_policy (linked_policy c.args.new_id (slot_values c.args.values.items) t) s) c.in_default.ensures.answer.1 in
    let fault = link_fault s c.args.template_id.now c.args.new_id c.args.values.items in
    let free = free_of s c.args.new_id (first_none (id_fault s c.args.new_id) (template_fault (template_at s c.args.template_id.now) c.args.template_id.now c.args.values.items) c.in_default.ensures.answer.0) in
    (policy_refused c.self.inside.schema.now c.self.inside.policies c.link.new.self (linked_policy c.args.new_id (slot_values c.args.values.items) w.0) c.in-Ok.id c.in-Ok.ensures free w.1.1
    c.edits_keep_acceptance.ensures c.is_policy_set.ensures c.self.inside.manifest c.self.inside.tries c.args.self.now c.self.view_is c.self.invariant.0 c.self.invariant.1
    (link c.args.template_id.now c.args.new_id c.args.values.items) (ap (λ o. with_link o c.args.new_id c.args.values.items c.self.inside.policies) w.1.0) fault
    (ap (λ o. or_findings fault (link_findings c.self.inside.schema.now o c.args.new_id c.args.values.items)) w.1.0) c.in_default.ensures.answer.0
    c.in-Err-settled.e c.settle-settled.new.policies c.settle-settled.new.tries c.in-Err-settled.ensures.refused c.in-Err-settled.ensures.taken_back.0 c.in-Err-settled.ensures.taken_back.1).kept

pub returns-in-Err-settled-clause-refused : goal.returns-in-Err-settled-clause-refused
returns-in-Err-settled-clause-refused g c =
    let s = c.self.inside.policies in
    let w = some_of (template_at s c.args.template_id.now) (λ t. c.link.new.self ≡ with_policy (linked_policy c.args.new_id (slot_values c.args.values.items) t) s) c.in_default.ensures.answer.1 in
    let fault = link_fault s c.args.template_id.now c.args.new_id c.args.values.items in
    let free = free_of s c.args.new_id (first_none (id_fault s c.args.new_id) (template_fault (template_at s c.args.template_id.now) c.args.template_id.now c.args.values.items) c.in_default.ensures.answer.0) in
    (policy_refused c.self.inside.schema.now c.self.inside.policies c.link.new.self (linked_policy c.args.new_id (slot_values c.args.values.items) w.0) c.in-Ok.id c.in-Ok.ensures free w.1.1
    c.edits_keep_acceptance.ensures c.is_policy_set.ensures c.self.inside.manifest c.self.inside.tries c.args.self.now c.self.view_is c.self.invariant.0 c.self.invariant.1
    (link c.args.template_id.now c.args.new_id c.args.values.items) (ap (λ o. with_link o c.args.new_id c.args.values.items c.self.inside.policies) w.1.0) fault
    (ap (λ o. or_findings fault (link_findings c.self.inside.schema.now o c.args.new_id c.args.values.items)) w.1.0) c.in_default.ensures.answer.0
    c.in-Err-settled.e c.settle-settled.new.policies c.settle-settled.new.tries c.in-Err-settled.ensures.refused c.in-Err-settled.ensures.taken_back.0 c.in-Err-settled.ensures.taken_back.1).refused

pub returns-in-Err-settled-clause-unchanged : goal.returns-in-Err-settled-clause-unchanged
returns-in-Err-settled-clause-unchanged g c =
    let s = c.self.inside.policies in
    let w = some_of (template_at s c.args.template_id.now) (λ t. c.link.new.self ≡ with_policy (linked_policy c.args.new_id (slot_values c.args.values.items) t) s) c.in_default.ensures.answer.1 in
    let fault = link_fault s c.args.template_id.now c.args.new_id c.args.values.items in
    let free = free_of s c.args.new_id (first_none (id_fault s c.args.new_id) (template_fault (template_at s c.args.template_id.now) c.args.template_id.now c.args.values.items) c.in_default.ensures.answer.0) in
    (policy_refused c.self.inside.schema.now c.self.inside.policies c.link.new.self (linked_policy c.args.new_id (slot_values c.args.values.items) w.0) c.in-Ok.id c.in-Ok.ensures free w.1.1
    c.edits_keep_acceptance.ensures c.is_policy_set.ensures c.self.inside.manifest c.self.inside.tries c.args.self.now c.self.view_is c.self.invariant.0 c.self.invariant.1
    (link c.args.template_id.now c.args.new_id c.args.values.items) (ap (λ o. with_link o c.args.new_id c.args.values.items c.self.inside.policies) w.1.0) fault
    (ap (λ o. or_findings fault (link_findings c.self.inside.schema.now o c.args.new_id c.args.values.items)) w.1.0) c.in_default.ensures.answer.0
    c.in-Err-settled.e c.settle-settled.new.policies c.settle-settled.new.tries c.in-Err-settled.ensures.refused c.in-Err-settled.ensures.taken_back.0 c.in-Err-settled.ensures.taken_back.1).unchanged

pub returns-in-Ok-settled-clause-steps : goal.returns-in-Ok-settled-clause-steps
returns-in-Ok-settled-clause-steps g c =
    let s = c.self.inside.policies in
    let w = some_of (template_at s c.args.template_id.now) (λ t. c.link.new.self ≡ with_policy (linked_policy c.args.new_id (slot_values c.args.values.items) t) s) c.in_default.ensures.answer.1 in
    let fault = link_fault s c.args.template_id.now c.args.new_id c.args.values.items in
    let free = free_of s c.args.new_id (first_none (id_fault s c.args.new_id) (template_fault (template_at s c.args.template_id.now) c.args.template_id.now c.args.values.items) c.in_default.ensures.answer.0) in
    let same : length (unlinked_envs c.self.inside.schema.now) ≡ length (unlinked_envs c.args.self.now.schema) = ap (λ (l : LiveData). length (unlinked_envs l.schema)) c.self.view_is in
    let entry = policy_steps c.self.inside.schema.now c.self.inside.policies c.link.new.self (linked_policy c.args.new_id (slot_values c.args.values.items) w.0) c.in-Ok.id c.in-Ok.ensures free w.1.1 in
    omega (arith, same, entry, c.settle-settled.ensures.steps)

pub returns-in-Err-settled-clause-steps : goal.returns-in-Err-settled-clause-steps
returns-in-Err-settled-clause-steps g c =
    let s = c.self.inside.policies in
    let w = some_of (template_at s c.args.template_id.now) (λ t. c.link.new.self ≡ with_policy (linked_policy c.args.new_id (slot_values c.args.values.items) t) s) c.in_default.ensures.answer.1 in
    let fault = link_fault s c.args.template_id.now c.args.new_id c.args.values.items in
    let free = free_of s c.args.new_id (first_none (id_fault s c.args.new_id) (template_fault (template_at s c.args.template_id.now) c.args.template_id.now c.args.values.items) c.in_default.ensures.answer.0) in
    let same : length (unlinked_envs c.self.inside.schema.now) ≡ length (unlinked_envs c.args.self.now.schema) = ap (λ (l : LiveData). length (unlinked_envs l.schema)) c.self.view_is in
    let entry = policy_steps c.self.inside.schema.now c.self.inside.policies c.link.new.self (linked_policy c.args.new_id (slot_values c.args.values.items) w.0) c.in-Ok.id c.in-Ok.ensures free w.1.1 in
    omega (arith, same, entry, c.settle-settled.ensures.steps)
