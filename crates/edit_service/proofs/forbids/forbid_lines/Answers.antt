use Rattle.std.proofs.Common.{◌≡◌, ◌++◌, sym, ap, subst, ◌∙◌, string_bytes}
use Rattle.policy_compare.specs.Conditions.{is_permit}
use Rattle.edit_service.specs.Forbids.{ending_lines}
use Rattle.edit_service.proofs.ForbidLines.{AreLinesOn, added, ended, passed}
use Rattle.edit_service.proofs.forbids.forbid_lines.Goals as goal

pub loop-policy-preserved-then-is_permit : goal.loop-policy-preserved-then-is_permit
loop-policy-preserved-then-is_permit c =
    passed c.args.schema.now c.args.assumed c.args.policies.now.policies c.loop-policy.policy-iterator c.next.new.self c.in-Some.policy.now c.in-Some.ensures.steps
    (string_bytes c.loop-policy.text) c.loop-policy.invariant (ap is_permit (sym c.effect.ensures) ∙ sym c.is_permit.ensures ∙ c.if-is_permit.true)

pub loop-policy-preserved : goal.loop-policy-preserved
loop-policy-preserved c =
    let so_far = string_bytes c.loop-policy.text in
    let e = c.in_ok-endings.endings in
    let bytes : string_bytes c.push_str.new.self ≡ so_far ++ ending_lines c.in-Some.policy.now.id e =
    c.in_ok-push_str.ensures.bytes ∙ ap (λ b. so_far ++ b) (c.as_str.ensures.value ∙ c.in_ok-lines.ensures ∙ ap (λ i. ending_lines i e) c.id.ensures) in
    subst (AreLinesOn c.args.schema.now c.args.assumed c.args.policies.now.policies c.next.new.self) (sym bytes)
    (added c.args.schema.now c.args.assumed c.args.policies.now.policies c.loop-policy.policy-iterator c.next.new.self c.in-Some.policy.now c.in-Some.ensures.steps
    so_far c.loop-policy.invariant (ap is_permit (sym c.effect.ensures) ∙ sym c.is_permit.ensures ∙ c.if-is_permit.false) e c.in_ok-endings.ensures)

pub returns : goal.returns
returns c =
    ended c.args.schema.now c.args.assumed c.args.policies.now.policies c.loop-policy.policy-iterator (string_bytes c.loop-policy.text) c.in-None.ensures.steps.0 c.loop-policy.invariant
