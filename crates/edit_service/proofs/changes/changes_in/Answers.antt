use Rattle.std.proofs.Common.{sym, subst, map, ◌+◌}
use Rattle.policy_set.specs.PolicySet.{PolicySetData}
use Rattle.schema_core.specs.RequestEnvs.{env_data_of}
use Rattle.edit_service.specs.Changes.{AllHold}
use Rattle.edit_service.proofs.Compared.{AreFound, all_found, one_more}
use Rattle.edit_service.proofs.changes.changes_in.Goals as goal

pub loop-env-preserved : goal.loop-env-preserved
loop-env-preserved c =
    subst (AreFound c.args.schema.now c.in_ok-edit.edit.before.now.policies c.in_ok-edit.edit.after.now.policies c.deref-env-items.result.now (c.loop-env.env-index + 1)) (sym c.in_ok-push.ensures.items)
    (one_more c.args.schema.now c.in_ok-edit.edit.before.now.policies c.in_ok-edit.edit.after.now.policies c.deref-env-items.result.now c.loop-env.env-index c.env-item.result c.env-item.is c.loop-env-test.true
    c.loop-env.changes.items c.in_ok-change.change c.in_ok-change.ensures c.loop-env.invariant)

pub returns : goal.returns
returns c =
    let found = all_found c.args.schema.now c.in_ok-edit.edit.before.now.policies c.in_ok-edit.edit.after.now.policies c.deref-env-items.result.now c.loop-env.env-index c.loop-env.changes.items c.loop-env-test.false c.loop-env.invariant in
    subst (λ (b : PolicySetData). AllHold c.args.schema.now b.policies c.args.after.now.policies (map env_data_of c.args.envs.now.items) c.loop-env.changes.items) c.in_ok-edit.ensures.before
    (subst (λ (a : PolicySetData). AllHold c.args.schema.now c.in_ok-edit.edit.before.now.policies a.policies (map env_data_of c.args.envs.now.items) c.loop-env.changes.items) c.in_ok-edit.ensures.after
    (subst (λ items. AllHold c.args.schema.now c.in_ok-edit.edit.before.now.policies c.in_ok-edit.edit.after.now.policies (map env_data_of items) c.loop-env.changes.items) c.deref-env-items.ensures.value found))
