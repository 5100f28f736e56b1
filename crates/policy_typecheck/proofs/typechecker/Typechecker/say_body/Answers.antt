use Rattle.std.proofs.Common.{◌≡◌, OnOk, subst}
use Rattle.schema_core.specs.RequestEnvs.{env_data_of}
use Rattle.typecheck_rules.specs.Check.{check_walked, condition_walked}
use Rattle.link_spec.specs.Met.{body_check}
use Rattle.typecheck_walk.specs.Answer.{Reports}
use Rattle.policy_typecheck.specs.Reported.{Reported}
use Rattle.policy_typecheck.proofs.Reported.{same_reported}
use Rattle.policy_typecheck.proofs.typechecker.Typechecker.say_body.Goals as goal

pub returns : goal.returns
returns c =
    let s = c.args.self.now in
    let t = c.args.t.now in
    let e = env_data_of c.args.env.now in
    let r = c.in_ok-check.check in
    let before : Reported = (c.args.summary.now, c.args.found.now.keys) in
    let named = subst (λ id. Reports id (check_walked (condition_walked s e c.non_scope_constraints.result.now)) r) c.id.ensures c.in_ok-check.ensures in
    let tells = subst (λ x. Reports t.id (check_walked (condition_walked s e x)) r) c.non_scope_constraints.ensures named in
    subst (λ z. OnOk c.say_check.result ((c.say_check.new.summary, c.say_check.new.found.keys) ≡ z)) (same_reported t.id (body_check s t e) r tells before) c.say_check.ensures
