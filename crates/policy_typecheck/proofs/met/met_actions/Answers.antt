use Rattle.std.proofs.Common.{◌≡◌, IfOk, filter, sym, ◌∙◌, subst}
use Rattle.policy_scope.specs.Scope.{action_meets}
use Rattle.policy_typecheck.specs.Pointed.{pointed}
use Rattle.policy_typecheck.proofs.MetActions.{all_stay}
use Rattle.policy_typecheck.proofs.met.met_actions.Goals as goal

pub returns-in-Any-clause-met : goal.returns-in-Any-clause-met
returns-in-Any-clause-met c =
    let s = c.args.schema.now in
    subst (λ z. IfOk c.every.result (λ r. pointed r.items ≡ z))
    (c.action_ids-actions.ensures.value ∙ sym (all_stay s.action_ids) ∙ (λ i. filter (action_meets s (sym c.in-Any.is i)) s.action_ids)) c.every.ensures
