use Rattle.std.proofs.Common.{◌≡◌, [], ◌++◌, map, is_some, sym, ap, ◌∙◌, subst, arith}
use Rattle.std.proofs.lemmas.List.{nil_from_length}
use Rattle.std.specs.Option.{option_to_list}
use Rattle.std.specs.Vec.Iter.{into_iter_items}
use Rattle.schema_core.specs.EnvData.{action_in}
use Rattle.schema_core.specs.RequestEnvs.{env_data_of}
use Rattle.typecheck_rules.specs.Check.{checked}
use Rattle.policy_typecheck.specs.Answer.{Reports}
use Rattle.level_spec.specs.Levels.{greater}
use Rattle.policy_validate.proofs.Checks.{reported_condition}
use Rattle.policy_review.specs.Matrix.{row_at}
use Rattle.policy_review.specs.Found.{level_reported}
use Rattle.policy_review.proofs.Checks.{verdict_is, verdict_found}
use Rattle.policy_review.proofs.Steps.{begun, gone_on, stopped, all_passed, all_rows, whole_level}
use Rattle.policy_review.proofs.matrix.add_rows.Goals as goal

pub loop-env-init : goal.loop-env-init
loop-env-init c =
    begun c.args.schema.now c.args.policy.now c.args.matrix.now.items c.args.level.now (map env_data_of (into_iter_items c.into_iter-env-iterator.result))
    (ap (map env_data_of) c.into_iter-env-iterator.ensures.into_iter_gives.0 ∙ c.in_ok-env-items.ensures)

pub loop-env-preserved : goal.loop-env-preserved
loop-env-preserved c =
    let schema = c.args.schema.now in
    let p = c.args.policy.now in
    let e = env_data_of c.in-Some.env in
    let check = c.in_ok-check.check in
    let verdict = c.in-Some-passed_verdict.verdict in
    let matrix = c.loop-env.matrix.items in
    let level = c.loop-env.level in
    let exact = c.check_is_exact.ensures in
    let tells = subst (λ s. Reports p.id (checked s e p.condition) check) c.requires c.in_ok-check.ensures in
    gone_on schema p c.args.matrix.now.items c.args.level.now matrix level (map env_data_of (into_iter_items c.loop-env.env-iterator)) (map env_data_of (into_iter_items c.next.new.self)) e
    (ap (map env_data_of) c.in-Some.ensures.steps.0) c.loop-env.invariant
    (sym (verdict_found exact schema e p.condition p.id check tells) ∙ ap is_some (sym c.in-Some-passed_verdict.ensures))
    verdict (verdict_is exact schema e p.condition p.id check tells verdict (sym c.in-Some-passed_verdict.ensures))
    c.add_row.new.matrix.items (c.in_ok-add_row.ensures ∙ ap (λ id. matrix ++ option_to_list (row_at id e verdict)) c.id.ensures)
    c.in_ok-raised.raised (c.in_ok-raised.ensures ∙ ap (λ o. greater level (level_reported (action_in e) o)) (reported_condition p.id (checked schema e p.condition) check tells))

pub returns-in_default-clause-passes : goal.returns-in_default-clause-passes
returns-in_default-clause-passes c =
    let schema = c.args.schema.now in
    let p = c.args.policy.now in
    let e = env_data_of c.in-Some.env in
    let check = c.in_ok-check.check in
    let tells = subst (λ s. Reports p.id (checked s e p.condition) check) c.requires c.in_ok-check.ensures in
    stopped schema p c.args.matrix.now.items c.args.level.now c.loop-env.matrix.items c.loop-env.level (map env_data_of (into_iter_items c.loop-env.env-iterator)) (map env_data_of (into_iter_items c.next.new.self)) e
    (ap (map env_data_of) c.in-Some.ensures.steps.0) c.loop-env.invariant
    (sym (verdict_found c.check_is_exact.ensures schema e p.condition p.id check tells) ∙ ap is_some (sym c.in_default.ensures))

pub returns-clause-passes : goal.returns-clause-passes
returns-clause-passes c =
    let none : into_iter_items c.loop-env.env-iterator ≡ [] = nil_from_length _ (omega (arith, c.in-None.ensures.steps.0)) in
    all_passed c.args.schema.now c.args.policy.now c.args.matrix.now.items c.args.level.now c.loop-env.matrix.items c.loop-env.level (map env_data_of (into_iter_items c.loop-env.env-iterator)) (ap (map env_data_of) none) c.loop-env.invariant

pub returns-clause-rows : goal.returns-clause-rows
returns-clause-rows c =
    let none : into_iter_items c.loop-env.env-iterator ≡ [] = nil_from_length _ (omega (arith, c.in-None.ensures.steps.0)) in
    all_rows c.args.schema.now c.args.policy.now c.args.matrix.now.items c.args.level.now c.loop-env.matrix.items c.loop-env.level (map env_data_of (into_iter_items c.loop-env.env-iterator)) (ap (map env_data_of) none) c.loop-env.invariant

pub returns-clause-level : goal.returns-clause-level
returns-clause-level c =
    let none : into_iter_items c.loop-env.env-iterator ≡ [] = nil_from_length _ (omega (arith, c.in-None.ensures.steps.0)) in
    whole_level c.args.schema.now c.args.policy.now c.args.matrix.now.items c.args.level.now c.loop-env.matrix.items c.loop-env.level (map env_data_of (into_iter_items c.loop-env.env-iterator)) (ap (map env_data_of) none) c.loop-env.invariant
