use Rattle.std.proofs.Common.{◌≡◌, [], map, sym, ap, ◌∙◌, arith}
use Rattle.std.proofs.lemmas.List.{nil_from_length}
use Rattle.std.specs.Vec.Iter.{into_iter_items}
use Rattle.schema_core.specs.EnvData.{action_in}
use Rattle.schema_core.specs.RequestEnvs.{env_data_of}
use Rattle.policy_set.specs.Condition.{condition_of}
use Rattle.typecheck_rules.specs.Check.{checked}
use Rattle.level_spec.specs.Levels.{greater}
use Rattle.policy_validate.specs.Checks.{condition_in}
use Rattle.policy_validate.proofs.Checks.{reported_condition}
use Rattle.policy_review.specs.Levels.{greatest}
use Rattle.policy_review.specs.Found.{level_reported, level_found_in}
use Rattle.policy_review.proofs.Raising.{greater_zero, greater_assoc}
use Rattle.policy_review.proofs.levels.level_of.Goals as goal

pub loop-env-preserved : goal.loop-env-preserved
loop-env-preserved c =
    let t = c.args.template.now in
    let e = env_data_of c.in-Some.env in
    let before = c.loop-env.level in
    let level = level_found_in c.args.schema.now (condition_of t) in
    let rest = greatest (map level (map env_data_of (into_iter_items c.next.new.self))) in
    let reported = reported_condition t.id (checked c.args.typechecker.now e (condition_of t)) c.in_ok-check.check c.in_ok-check.ensures ∙ ap (λ s. condition_in (checked s e (condition_of t))) c.requires in
    ap (λ l. greater l rest) (c.in_ok-level.ensures ∙ ap (λ o. greater before (level_reported (action_in e) o)) reported)
    ∙ greater_assoc before (level e) rest
    ∙ ap (λ es. greater before (greatest (map level (map env_data_of es)))) (sym c.in-Some.ensures.steps.0)
    ∙ c.loop-env.invariant

pub returns : goal.returns
returns c =
    let level = level_found_in c.args.schema.now (condition_of c.args.template.now) in
    let none : into_iter_items c.loop-env.env-iterator ≡ [] = nil_from_length _ (omega (arith, c.in-None.ensures.steps.0)) in
    sym (greater_zero c.loop-env.level) ∙ ap (λ es. greater c.loop-env.level (greatest (map level (map env_data_of es)))) (sym none) ∙ c.loop-env.invariant
