use Rattle.std.proofs.Common.{map, sym, ap, ◌∙◌, subst}
use Rattle.std.specs.Vec.Iter.{into_iter_items}
use Rattle.schema_core.specs.RequestEnvs.{env_data_of}
use Rattle.typecheck_rules.specs.Check.{checked}
use Rattle.typecheck_walk.specs.Answer.{Reports}
use Rattle.policy_typecheck.specs.Reported.{Reported, all_reported, condition_check}
use Rattle.policy_typecheck.proofs.Reported.{same_reported}
use Rattle.policy_typecheck.proofs.typechecker.Typechecker.check_conditions.Goals as goal

pub loop-env-preserved : goal.loop-env-preserved
loop-env-preserved c =
    let s = c.args.self.now in
    let t = c.args.t.now in
    let e = env_data_of c.in-Some.env in
    let r = c.in_ok-check.check in
    let before : Reported = (c.loop-env.summary, c.loop-env.found.keys) in
    let named = subst (λ id. Reports id (checked s e c.condition.result.now) r) c.id.ensures c.in_ok-check.ensures in
    let tells = subst (λ x. Reports t.id (checked s e x) r) c.condition.ensures.value named in
    ap (λ z. all_reported t.id (condition_check s t) z (map env_data_of (into_iter_items c.next.new.self))) (c.in_ok-say_check.ensures ∙ same_reported t.id (condition_check s t e) r tells before) ∙
    ap (λ l. all_reported t.id (condition_check s t) before (map env_data_of l)) (sym c.in-Some.ensures.steps.0) ∙ c.loop-env.invariant
