use Rattle.std.proofs.Common.{◌≡◌, OnOk, true, sym, ◌∙◌, subst}
use Rattle.policy_scope.specs.PlainScope.{is_plain_scope}
use Rattle.policy_typecheck.specs.NoAction.{names_no_action}
use Rattle.policy_typecheck.specs.Reported.{Reported}
use Rattle.policy_typecheck.proofs.Reported.{bodies_say, refused_say}
use Rattle.policy_typecheck.proofs.typechecker.Typechecker.check_all.Goals as goal

pub returns-then-is_plain_scope : goal.returns-then-is_plain_scope
returns-then-is_plain_scope c =
    let s = c.args.self.now in
    let t = c.args.t.now in
    let before : Reported = (c.args.summary.now, c.args.found.now.keys) in
    let plain : is_plain_scope s t.principal t.action t.resource ≡ true =
    (λ j. is_plain_scope (sym c.self.view_is j) (sym c.principal_constraint-principal.ensures j) (sym c.action_constraint-action.ensures j) (sym c.resource_constraint-resource.ensures j)) ∙ sym c.is_plain_scope.ensures ∙ c.if-is_plain_scope.true in
    subst (λ z. OnOk c.check_bodies.result ((c.check_bodies.new.summary, c.check_bodies.new.found.keys) ≡ z)) (bodies_say s c.check_bodies.ensures.schema t plain c.requires.body c.requires.depth before) c.check_bodies.ensures.reported

pub returns-then-names_no_action : goal.returns-then-names_no_action
returns-then-names_no_action c =
    let s = c.args.self.now in
    let t = c.args.t.now in
    let before : Reported = (c.args.summary.now, c.args.found.now.keys) in
    let names : names_no_action s t.principal t.action t.resource ≡ true =
    (λ j. names_no_action (sym c.self.view_is j) (sym c.principal_constraint-principal.ensures j) (sym c.action_constraint-action.ensures j) (sym c.resource_constraint-resource.ensures j)) ∙ sym c.names_no_action.ensures ∙ c.if-names_no_action.true in
    subst (λ z. OnOk c.check_refused.result ((c.check_refused.new.summary, c.check_refused.new.found.keys) ≡ z)) (refused_say s c.check_refused.ensures.schema t names c.requires.depth before) c.check_refused.ensures.reported
