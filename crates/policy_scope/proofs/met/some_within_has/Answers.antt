use Rattle.std.proofs.Common.{◌||◌, sym, ap, ◌∙◌}
use Rattle.std.specs.List.{list_any}
use Rattle.policy_values.specs.Uid.{uid_eq}
use Rattle.schema_core.specs.Schema.{ActionData}
use Rattle.policy_scope.specs.Met.{has_asked, some_has}
use Rattle.policy_scope.proofs.MetSteps.{within_declared, within_undeclared}
use Rattle.policy_scope.proofs.met.some_within_has.Goals as goal

pub returns-then-has_asked : goal.returns-then-has_asked
returns-then-has_asked c =
    let s = c.args.schema.now in
    let x = c.in-Some.action.now in
    let some_below = list_any (λ d. some_has s c.args.asked.now (λ (a : ActionData). uid_eq d a.name)) x.descendants in
    c.if-has_asked.true ∙
    sym (within_declared s (has_asked s c.args.asked.now) c.requires c.args.uid.now x (sym c.in-Some.ensures) ∙ ap (λ b. b || some_below) (sym c.has_asked.ensures ∙ c.if-has_asked.true))

pub returns-else-has_asked : goal.returns-else-has_asked
returns-else-has_asked c =
    let s = c.args.schema.now in
    let x = c.in-Some.action.now in
    let some_of = list_any (λ d. some_has s c.args.asked.now (λ (a : ActionData). uid_eq d a.name)) in
    c.some_named_has.ensures ∙ ap some_of c.descendants.ensures.value ∙
    sym (within_declared s (has_asked s c.args.asked.now) c.requires c.args.uid.now x (sym c.in-Some.ensures) ∙ ap (λ b. b || some_of x.descendants) (sym c.has_asked.ensures ∙ c.if-has_asked.false))

pub returns-in-None : goal.returns-in-None
returns-in-None c = sym (within_undeclared c.args.schema.now (has_asked c.args.schema.now c.args.asked.now) c.requires c.args.uid.now (sym c.in-None.ensures))
