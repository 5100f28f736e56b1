use Rattle.std.proofs.Common.{IfOk, subst}
use Rattle.schema_core.specs.RequestEnvs.{env_data_of}
use Rattle.typecheck_rules.specs.Check.{checked}
use Rattle.typecheck_walk.specs.Answer.{Reports}
use Rattle.policy_typecheck.proofs.typechecker.Typechecker.typecheck_by_single_request_env.Goals as goal

pub returns : goal.returns
returns c =
    let s = c.args.self.now in
    let e = env_data_of c.args.env.now in
    let named = subst (λ id. IfOk c.check_in.result (λ r. Reports id (checked s e c.condition.result.now) r)) c.id.ensures c.check_in.ensures in
    subst (λ x. IfOk c.check_in.result (λ r. Reports c.args.t.now.id (checked s e x) r)) c.condition.ensures.value named
