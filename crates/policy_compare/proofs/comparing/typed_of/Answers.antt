use Rattle.std.proofs.Common.{Result, Ok, Err, Option, Some, None, IfOk, IfSome, sym, ap, subst, ◌∙◌, true, ◌≡◌}
use Rattle.schema_core.specs.EnvData.{action_in}
use Rattle.schema_core.specs.RequestEnvs.{env_data_of}
use Rattle.policy_compare.specs.ActionTest.{condition_for_any, lists_action}
use Rattle.policy_compare.specs.Conditions.{HasSidesOf}
use Rattle.policy_compare.proofs.ActionTest.{sides_kept}
use Rattle.policy_compare.proofs.comparing.typed_of.Goals as goal

-- what holds of what was typed
carried : {A E : Type 0} (P Q : A → Type 0) → ((a : A) → P a → Q a) → (r : Result (Option A) E) → IfOk r (λ o. IfSome o P) → IfOk r (λ o. IfSome o Q)
carried P Q f (Ok (Some a)) h = f a h
carried P Q f (Ok None) h = tt
carried P Q f (Err e) h = tt

pub returns-in-Ok : goal.returns-in-Ok
returns-in-Ok c =
    let schema = c.args.at.now.schema.now in
    let env = env_data_of c.args.at.now.env.now in
    let p = c.args.policy.now in
    let listed : lists_action p.action (action_in env) ≡ true = ap (λ a. lists_action a (action_in env)) (sym c.action_constraint.ensures) ∙ sym c.lists_action.ensures ∙ c.if-lists_action.true in
    carried (HasSidesOf schema env c.in-Ok.condition) (HasSidesOf schema env p.condition)
    (λ t h. sides_kept schema env p c.condition.ensures.policy listed t (subst (λ e. HasSidesOf schema env e t) (c.in-Ok.ensures ∙ ap condition_for_any c.condition.ensures.value) h))
    c.typed_in.result c.typed_in.ensures
