use Rattle.std.proofs.Common.{◌≡◌, sym, ◌∙◌, subst}
use Rattle.std.specs.Prelude.{None}
use Rattle.std.proofs.lemmas.Result.{IfOk-weaker}
use Rattle.schema_core.specs.RequestEnvs.{env_data_of}
use Rattle.typecheck_rules.specs.Check.{check_walked, checked, condition_walked}
use Rattle.typecheck_walk.specs.Answer.{Reports}
use Rattle.policy_validate.specs.Found.{condition_in}
use Rattle.manifest_computation.specs.Gathered.{part_in}
use Rattle.manifest_computation.proofs.Holding.{body_fails, held_after, met_taken, scope_fails, too_deep, unmet_taken}
use Rattle.manifest_computation.proofs.Splits.{policy_reported}
use Rattle.manifest_computation.proofs.gathering.take_policy.Goals as goal

pub returns-then-is_too_deep-clause-missing : goal.returns-then-is_too_deep-clause-missing
returns-then-is_too_deep-clause-missing c = λ no.
    let schema = c.args.at.now.schema.now in
    let env = env_data_of c.args.at.now.env.now in
    subst (λ e. condition_in (checked schema env e) ≡ None) c.condition.ensures.value (too_deep schema env c.condition.result.now (sym c.is_too_deep.ensures ∙ c.if-is_too_deep.true))

pub take_body-requires-clause-held : goal.take_body-requires-clause-held
take_body-requires-clause-held c =
    held_after c.args.at.now.schema.now (env_data_of c.args.at.now.env.now) c.args.policies.now c.args.bodies.now c.args.trie.now c.take.new.trie c.args.conditions.now.items c.take.new.conditions.items c.in-Success.scope
    c.in_ok-take-in-Success.ensures c.requires.held

pub returns-in_ok-take-in-Success-clause-taken : goal.returns-in_ok-take-in-Success-clause-taken
returns-in_ok-take-in-Success-clause-taken c =
    let schema = c.args.at.now.schema.now in
    let env = env_data_of c.args.at.now.env.now in
    let p = c.args.policy.now in
    let scope = check_walked (condition_walked schema env c.scope_of.result.now) in
    let split = policy_reported schema env p c.condition.ensures.policy c.condition.result.now c.condition.ensures.value (sym c.is_too_deep.ensures ∙ c.if-is_too_deep.false) c.scope_of.result.now c.scope_of.ensures in
    IfOk-weaker c.take_body.result _ _ (λ b h yes.
    met_taken schema env c.id.result.now scope c.in-Success.scope (subst (Reports c.id.result.now scope) c.in-Success.is c.in_ok-check.ensures) (part_in schema env p.body) (condition_in (checked schema env p.condition)) split
    c.args.trie.now c.take.new.trie c.take_body.new.trie c.args.conditions.now.items c.take.new.conditions.items c.take_body.new.conditions.items c.in_ok-take-in-Success.ensures (h yes))
    c.take_body.ensures.taken

pub returns-in_ok-take-in-Success-clause-missing : goal.returns-in_ok-take-in-Success-clause-missing
returns-in_ok-take-in-Success-clause-missing c =
    let schema = c.args.at.now.schema.now in
    let env = env_data_of c.args.at.now.env.now in
    let p = c.args.policy.now in
    let scope = check_walked (condition_walked schema env c.scope_of.result.now) in
    let split = policy_reported schema env p c.condition.ensures.policy c.condition.result.now c.condition.ensures.value (sym c.is_too_deep.ensures ∙ c.if-is_too_deep.false) c.scope_of.result.now c.scope_of.ensures in
    IfOk-weaker c.take_body.result _ _ (λ b h no.
    body_fails c.id.result.now scope c.in-Success.scope (subst (Reports c.id.result.now scope) c.in-Success.is c.in_ok-check.ensures) (part_in schema env p.body) (condition_in (checked schema env p.condition)) (h no) split)
    c.take_body.ensures.missing

pub returns-in_ok-take-in-Irrelevant-clause-taken : goal.returns-in_ok-take-in-Irrelevant-clause-taken
returns-in_ok-take-in-Irrelevant-clause-taken c = λ yes.
    let schema = c.args.at.now.schema.now in
    let env = env_data_of c.args.at.now.env.now in
    let p = c.args.policy.now in
    let scope = check_walked (condition_walked schema env c.scope_of.result.now) in
    let split = policy_reported schema env p c.condition.ensures.policy c.condition.result.now c.condition.ensures.value (sym c.is_too_deep.ensures ∙ c.if-is_too_deep.false) c.scope_of.result.now c.scope_of.ensures in
    unmet_taken schema env c.id.result.now scope c.in-Irrelevant.scope (subst (Reports c.id.result.now scope) c.in-Irrelevant.is c.in_ok-check.ensures) (part_in schema env p.body) (condition_in (checked schema env p.condition)) split
    c.args.trie.now c.take-in-Irrelevant.new.trie c.args.conditions.now.items c.take-in-Irrelevant.new.conditions.items c.in_ok-take-in-Irrelevant.ensures

pub returns-in_ok-take-in-Irrelevant-clause-held : goal.returns-in_ok-take-in-Irrelevant-clause-held
returns-in_ok-take-in-Irrelevant-clause-held c = λ yes.
    held_after c.args.at.now.schema.now (env_data_of c.args.at.now.env.now) c.args.policies.now c.args.bodies.now c.args.trie.now c.take-in-Irrelevant.new.trie c.args.conditions.now.items
    c.take-in-Irrelevant.new.conditions.items c.in-Irrelevant.scope c.in_ok-take-in-Irrelevant.ensures c.requires.held

pub returns-in-Fail-clause-missing : goal.returns-in-Fail-clause-missing
returns-in-Fail-clause-missing c = λ no.
    let schema = c.args.at.now.schema.now in
    let env = env_data_of c.args.at.now.env.now in
    let p = c.args.policy.now in
    let scope = check_walked (condition_walked schema env c.scope_of.result.now) in
    let split = policy_reported schema env p c.condition.ensures.policy c.condition.result.now c.condition.ensures.value (sym c.is_too_deep.ensures ∙ c.if-is_too_deep.false) c.scope_of.result.now c.scope_of.ensures in
    scope_fails c.id.result.now scope c.in-Fail.found (subst (Reports c.id.result.now scope) c.in-Fail.is c.in_ok-check.ensures) (part_in schema env p.body) (condition_in (checked schema env p.condition)) split
