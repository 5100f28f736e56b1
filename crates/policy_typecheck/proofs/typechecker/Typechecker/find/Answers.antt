use Rattle.std.proofs.Common.{sym, ap, ◌∙◌, nat_lt}
use Rattle.policy_expressions.specs.Tree.{depth_of}
use Rattle.policy_typecheck.proofs.Reported.{reported_accepted, reported_impossible, reported_errors}
use Rattle.policy_typecheck.proofs.typechecker.Typechecker.find.Goals as goal

pub returns-clause-accepted : goal.returns-clause-accepted
returns-clause-accepted c =
    let flat = sym (ap (λ x. nat_lt 200 (depth_of x)) c.condition.ensures.value) ∙ sym c.is_too_deep.ensures ∙ c.if-is_too_deep.false in
    ap (λ s. s.0.accepted) c.in_ok-check_all.ensures ∙ reported_accepted c.args.self.now c.args.t.now flat c.args.found.now.keys

pub returns-clause-impossible : goal.returns-clause-impossible
returns-clause-impossible c =
    let flat = sym (ap (λ x. nat_lt 200 (depth_of x)) c.condition.ensures.value) ∙ sym c.is_too_deep.ensures ∙ c.if-is_too_deep.false in
    ap (λ s. s.0.impossible) c.in_ok-check_all.ensures ∙ reported_impossible c.args.self.now c.args.t.now flat c.args.found.now.keys

pub returns-clause-errors : goal.returns-clause-errors
returns-clause-errors c =
    let flat = sym (ap (λ x. nat_lt 200 (depth_of x)) c.condition.ensures.value) ∙ sym c.is_too_deep.ensures ∙ c.if-is_too_deep.false in
    ap (λ s. s.1) c.in_ok-check_all.ensures ∙ reported_errors c.args.self.now c.args.t.now flat c.args.found.now.keys
