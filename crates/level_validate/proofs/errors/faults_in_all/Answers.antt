use Rattle.std.proofs.Common.{◌≡◌, ◌<◌, length, get_or, subst}
use Rattle.level_validate.proofs.Once.{next_rest}
use Rattle.level_validate.proofs.errors.faults_in_all.Goals as goal

pub loop-env-preserved : goal.loop-env-preserved
loop-env-preserved c =
    let same = c.deref-env-items.ensures.value in
    let item = c.loop-env-item.result in
    next_rest c.args.max_level c.args.conditions.now.items c.loop-env.env-index item _ _ _
    (subst (λ xs. c.loop-env.env-index < length xs) same c.loop-env-test.true) (subst (λ xs. item ≡ get_or xs c.loop-env.env-index item) same c.loop-env-item.is)
    c.in_ok-faults.ensures c.loop-env.invariant
