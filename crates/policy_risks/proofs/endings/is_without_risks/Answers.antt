use Rattle.std.proofs.Common.{◌≡◌, [], None, map, sym, ap, ◌∙◌, arith}
use Rattle.schema_core.specs.RequestEnvs.{env_data_of}
use Rattle.condition_risks.specs.Listed.{risk_of}
use Rattle.condition_risks.specs.Risks.{risks}
use Rattle.policy_risks.specs.Typed.{stored_by}
use Rattle.policy_risks.proofs.Closed.{closed_in, nothing_there}
use Rattle.policy_risks.proofs.endings.is_without_risks.Goals as goal

pub returns : goal.returns
returns c empty =
    let none : c.in_ok-risks.risks.items ≡ [] = nothing_there c.in_ok-risks.risks.items c.in_ok-risks.risks.len (omega (arith, c.in_ok-risks.risks.ok)) (sym c.is_empty.ensures ∙ empty) in
    closed_in c.without_risks.ensures c.args.schema.now c.action_ids-actions.ensures.schema (env_data_of c.args.env.now) c.args.policy.now c.condition.ensures.policy
    (rw (← c.condition.ensures.value) c.keys_are_once.ensures) c.args.typed.now c.requires c.args.assumed (record { note = None; loc = None }) (record { note = None; loc = None })
    (ap (λ xs. risks xs [] c.args.typed.now)
    ((λ i. stored_by c.args.assumed (sym c.var-principal.ensures i) (sym c.var-resource.ensures i)) ∙ sym c.in_ok-stored.ensures)
    ∙ sym c.in_ok-risks.ensures ∙ ap (map risk_of) none)
