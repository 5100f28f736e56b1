use Rattle.schema_core.specs.declared.request_env.RequestEnv.{RequestEnv}
use Rattle.typecheck_walk.specs.declared.policy_check.PolicyCheck.{PolicyCheck}
use Rattle.policy_typecheck.proofs.AllChecks.{envs_more, reported_more}
use Rattle.std.specs.Vec.Iter.{into_iter_items}
use Rattle.policy_typecheck.proofs.typechecker.Typechecker.check_in_each.Goals as goal

pub loop-env-preserved : goal.loop-env-preserved
loop-env-preserved c =
    let s = c.args.self.now in
    let id = c.args.id.now in
    let x = c.args.condition.now in
    let done = c.loop-env.checks.items in
    let new = c.push.new.self.items in
    let r : RequestEnv × PolicyCheck = (c.in-Some.env, c.in_ok-check.check) in
    let it = into_iter_items c.loop-env.env-iterator in
    let rest = into_iter_items c.next.new.self in
    let is = c.in-Some.ensures.steps.0 in
    let pushed = c.in_ok-push.ensures.items in
    record {
      environments = envs_more s id x done new r it rest is pushed _ c.loop-env.invariant.environments;
      checks = reported_more s id x done new r it rest is pushed c.loop-env.invariant.checks c.in_ok-check.ensures;
    }
