use Rattle.std.proofs.Common.{map, sym, ap, ◌∙◌}
use Rattle.std.specs.Vec.Iter.{into_iter_items}
use Rattle.schema_core.specs.RequestEnvs.{env_data_of}
use Rattle.link_spec.specs.Met.{refused_check}
use Rattle.policy_typecheck.specs.Reported.{Reported, all_reported}
use Rattle.policy_typecheck.proofs.no_action.check_of_action.Goals as goal

pub loop-env-preserved : goal.loop-env-preserved
loop-env-preserved c =
    let s = c.args.checker.now in
    let t = c.args.t.now in
    let before : Reported = (c.loop-env.summary, c.loop-env.found.keys) in
    ap (λ z. all_reported t.id (refused_check s t) z (map env_data_of (into_iter_items c.next.new.self))) c.in_ok-say_where_met.ensures ∙
    ap (λ l. all_reported t.id (refused_check s t) before (map env_data_of l)) (sym c.in-Some.ensures.steps.0) ∙ c.loop-env.invariant
