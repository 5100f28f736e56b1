use Rattle.std.proofs.Common.{◌≡◌, List, [], map, sym, ap, ◌∙◌, subst}
use Rattle.std.specs.Prelude.{◌↔◌}
use Rattle.std.specs.List.{AllByRecursion, flat_map}
use Rattle.std.proofs.lemmas.Result.{IfOk-weaker}
use Rattle.findings.specs.declared.error.ValidationError.{ValidationError}
use Rattle.level_validate.specs.Errors.{level_error, condition_in, dereferences_in, PassesIn, IsReportedOf}
use Rattle.level_validate.proofs.errors.level_errors.Goals as goal

pub returns-clause-none : goal.returns-clause-none
returns-clause-none c =
    let id = c.args.policy_id.now in
    let n = c.args.max_level in
    let conditions = map condition_in c.args.conditions.now.items in
    IfOk-weaker c.errors.result _ _
    (λ errors is. subst (λ (es : List ValidationError). (es ≡ []) ↔ AllByRecursion (PassesIn n) conditions) (sym (is ∙ ap (map (level_error id n)) c.in_ok-faults.ensures)) (c.level_errors_are_exact.ensures id n conditions).0)
    c.errors.ensures

pub returns-clause-reported : goal.returns-clause-reported
returns-clause-reported c =
    let id = c.args.policy_id.now in
    let n = c.args.max_level in
    let conditions = map condition_in c.args.conditions.now.items in
    IfOk-weaker c.errors.result _ _
    (λ errors is. subst (AllByRecursion (IsReportedOf id n (flat_map dereferences_in conditions))) (sym (is ∙ ap (map (level_error id n)) c.in_ok-faults.ensures)) (c.level_errors_are_exact.ensures id n conditions).1)
    c.errors.ensures
