use Rattle.std.proofs.Common.{◌≡◌, ◌&&◌, ◌+◌, map, sym, ap, subst, ◌∙◌}
use Rattle.std.specs.List.{AllByRecursion}
use Rattle.schema_core.specs.RequestEnvs.{env_data_of}
use Rattle.policy_risks.proofs.Closed.{In, IsPassed, closed_everywhere, ended, one_more}
use Rattle.policy_risks.proofs.endings.endings_of.Goals as goal
use Rattle.policy_risks.proofs.endings.endings_of.Goals.{then-closed, else-closed}

pub loop-env-preserved : goal.loop-env-preserved
loop-env-preserved c =
    let here = c.in_ok-closed_here.closed_here in
    let same : c.if-closed.closed ≡ c.loop-env.closed && here = elim c.if-closed.branch [
      | then-closed w ↦ w.closed-is ∙ ap (λ b. b && here) (sym w.if-closed.true)
      | else-closed w ↦ w.closed-is ∙ w.if-closed.false ∙ ap (λ b. b && here) (sym w.if-closed.false)
    ] in
    subst (IsPassed c.args.schema.now c.args.assumed c.args.policy.now c.deref-env-items.result.now (c.loop-env.env-index + 1)) (sym same)
    (one_more c.args.schema.now c.args.assumed c.args.policy.now c.deref-env-items.result.now c.loop-env.env-index c.env-item.result c.env-item.is c.loop-env-test.true
    c.loop-env.closed here c.in_ok-closed_here.ensures c.loop-env.invariant)

pub returns : goal.returns
returns c closed =
    closed_everywhere c.args.schema.now c.args.assumed c.args.policy.now
    (subst (AllByRecursion (In c.args.schema.now c.args.assumed c.args.policy.now)) (ap (map env_data_of) c.deref-env-items.ensures.value ∙ c.requires)
    (ended c.args.schema.now c.args.assumed c.args.policy.now c.deref-env-items.result.now c.loop-env.env-index c.loop-env.closed c.loop-env-test.false c.loop-env.invariant closed))
