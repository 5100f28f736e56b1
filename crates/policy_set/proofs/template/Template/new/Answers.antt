use Rattle.policy_set.proofs.Depths.{by_body}
use Rattle.policy_set.proofs.template.Template.new.Goals as goal

pub returns-in-Ok-clause-nested : goal.returns-in-Ok-clause-nested
returns-in-Ok-clause-nested c =
    let deep = by_body (record { id = c.args.id; effect = c.args.effect; principal = c.args.principal; action = c.args.action; resource = c.args.resource; body = c.args.body }) in
    (λ e. cc, λ h. absurd (cc (c.in-Ok.is, c.whole_condition.ensures.nested.1 (h.0, deep.1 h.1))))

pub returns-in-Err-clause-nested : goal.returns-in-Err-clause-nested
returns-in-Err-clause-nested c =
    let deep = by_body (record { id = c.args.id; effect = c.args.effect; principal = c.args.principal; action = c.args.action; resource = c.args.resource; body = c.args.body }) in
    (λ e. let n = c.whole_condition.ensures.nested.0 (cc) in (n.0, deep.0 n.1), λ h. cc (c.whole_condition.ensures.nested.1 (h.0, deep.1 h.1)))
