use Rattle.std.proofs.Common.{◌≡◌, true, [], map, nat_lt, sym, ap, ◌∙◌, subst, arith}
use Rattle.std.proofs.lemmas.List.{nil_from_length}
use Rattle.std.specs.Vec.Iter.{into_iter_items}
use Rattle.policy_expressions.specs.Tree.{depth_of}
use Rattle.policy_set.specs.Condition.{condition_of}
use Rattle.schema_core.specs.RequestEnvs.{env_data_of}
use Rattle.typecheck_rules.specs.Check.{checked}
use Rattle.policy_typecheck.specs.Answer.{Reports}
use Rattle.policy_validate.proofs.AtLevel.{IsTypedSoFar, begun, gone_on, stopped, deep_refused, ended, none_there, some_there}
use Rattle.policy_validate.proofs.levels.typed_at.Goals as goal

pub loop-env-init : goal.loop-env-init
loop-env-init c =
    let left = map env_data_of (into_iter_items c.into_iter-env-iterator.result) in
    subst (λ fs. IsTypedSoFar c.args.schema.now c.args.level c.args.template.now true fs left) (sym c.new.ensures)
    (begun c.args.schema.now c.args.level c.args.template.now left (ap (map env_data_of) c.into_iter-env-iterator.ensures.into_iter_gives.0 ∙ c.in_ok-env-items.ensures))

pub loop-env-preserved : goal.loop-env-preserved
loop-env-preserved c =
    let schema = c.args.schema.now in
    let t = c.args.template.now in
    let e = env_data_of c.in-Some.env in
    let check = c.in_ok-check.check in
    let tells = subst (λ s. Reports t.id (checked s e (condition_of t)) check) c.requires c.in_ok-check.ensures in
    gone_on schema c.args.level t c.loop-env.typed.impossible c.loop-env.typed.faults (map env_data_of (into_iter_items c.loop-env.env-iterator)) (map env_data_of (into_iter_items c.next.new.self)) e
    (ap (map env_data_of) c.in-Some.ensures.steps.0) c.loop-env.invariant check tells (none_there _ (sym c.has_errors.ensures ∙ c.if-has_errors.false))
    c.in_ok-typed.typed.impossible c.in_ok-typed.ensures.impossible c.in_ok-typed.typed.faults c.in_ok-typed.ensures.faults

pub returns-then-is_too_deep : goal.returns-then-is_too_deep
returns-then-is_too_deep c =
    deep_refused c.args.schema.now c.args.level c.args.template.now (sym (ap (λ x. nat_lt 200 (depth_of x)) c.condition.ensures.value) ∙ sym c.is_too_deep.ensures ∙ c.if-is_too_deep.true)

pub returns-then-has_errors : goal.returns-then-has_errors
returns-then-has_errors c =
    let schema = c.args.schema.now in
    let t = c.args.template.now in
    let e = env_data_of c.in-Some.env in
    let check = c.in_ok-check.check in
    let tells = subst (λ s. Reports t.id (checked s e (condition_of t)) check) c.requires c.in_ok-check.ensures in
    let flat = sym (ap (λ x. nat_lt 200 (depth_of x)) c.condition.ensures.value) ∙ sym c.is_too_deep.ensures ∙ c.if-is_too_deep.false in
    stopped schema c.args.level t c.loop-env.typed.impossible c.loop-env.typed.faults (map env_data_of (into_iter_items c.loop-env.env-iterator)) (map env_data_of (into_iter_items c.next.new.self)) e
    (ap (map env_data_of) c.in-Some.ensures.steps.0) c.loop-env.invariant check tells flat (some_there _ (sym c.has_errors.ensures ∙ c.if-has_errors.true))

pub returns : goal.returns
returns c =
    let flat = sym (ap (λ x. nat_lt 200 (depth_of x)) c.condition.ensures.value) ∙ sym c.is_too_deep.ensures ∙ c.if-is_too_deep.false in
    let none : into_iter_items c.loop-env.env-iterator ≡ [] = nil_from_length _ (omega (arith, c.in-None.ensures.steps.0)) in
    ended c.args.schema.now c.args.level c.args.template.now flat c.loop-env.typed (map env_data_of (into_iter_items c.loop-env.env-iterator)) (ap (map env_data_of) none) c.loop-env.invariant
