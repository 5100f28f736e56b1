use Rattle.std.proofs.Common.{◌≡◌, Some, sym, ap, ◌∙◌, subst}
use Rattle.std.specs.Prelude.{IsSomeAnd}
use Rattle.schema_core.specs.RequestEnvs.{env_data_of}
use Rattle.typecheck_rules.specs.Check.{check_walked, condition_walked}
use Rattle.policy_validate.proofs.Checks.{reported_condition}
use Rattle.manifest_computation.specs.Gathered.{IsTaken, part_in}
use Rattle.manifest_computation.proofs.gathering.take_typed_body.Goals as goal

pub returns-in_ok-take-in-Some-clause-taken : goal.returns-in_ok-take-in-Some-clause-taken
returns-in_ok-take-in-Some-clause-taken c = λ yes.
    let schema = c.args.at.now.schema.now in
    let env = env_data_of c.args.at.now.env.now in
    let body = c.non_scope_constraints.result.now in
    let known = reported_condition c.id.result.now (check_walked (condition_walked schema env body)) c.in_ok-check.check c.in_ok-check.ensures in
    let left : part_in schema env c.args.policy.now.body ≡ Some c.in-Some.body = ap (part_in schema env) (sym c.non_scope_constraints.ensures) ∙ sym (c.in-Some.ensures ∙ known) in
    subst (λ o. IsSomeAnd o (IsTaken schema env c.take.new.trie c.take.new.conditions.items c.args.trie.now c.args.conditions.now.items)) (sym left) c.in_ok-take-in-Some.ensures

pub returns-in-None-clause-missing : goal.returns-in-None-clause-missing
returns-in-None-clause-missing c = λ no.
    let schema = c.args.at.now.schema.now in
    let env = env_data_of c.args.at.now.env.now in
    let known = reported_condition c.id.result.now (check_walked (condition_walked schema env c.non_scope_constraints.result.now)) c.in_ok-check.check c.in_ok-check.ensures in
    ap (part_in schema env) (sym c.non_scope_constraints.ensures) ∙ sym (c.in-None.ensures ∙ known)
