use Rattle.std.proofs.Common.{◌<◌, length, Some, rules, sym, ◌∙◌, ap}
use Rattle.policy_values.specs.Uid.{uid_cmp, uid_cmp_total, exact_uid}
use Rattle.std.proofs.lemmas.Fn.{always_returns_same}
use Rattle.schema_core.proofs.Found.{found_here, found_nowhere, answers_rise}
use Rattle.schema_core.proofs.validator_schema.ValidatorSchema.get_action_id.Goals as goal

pub returns-in-Ok : goal.returns-in-Ok
returns-in-Ok c =
    let xs = c.self.inside.action_ids.items in
    let lt : c.in-Ok.i < length xs = rw c.deref.ensures.value at c.in-Ok.ensures.bound in
    let here = c.in-Ok.ensures.position (λ x. uid_cmp x.name c.args.uid.now) (always_returns_same _ _ _ (λ a r f called. search rules)) c.index.result.now in
    let found = found_here uid_cmp_total exact_uid (λ x. x.name) c.args.uid.now xs c.self.invariant.actions_ascend c.in-Ok.i c.index.result.now lt (rw c.deref.ensures.value at here) in
    rw (← c.self.view_is) (sym (found ∙ ap Some (sym c.index.ensures)))

pub returns-in-Err : goal.returns-in-Err
returns-in-Err c =
    let xs = c.self.inside.action_ids.items in
    let parts = c.in-Err.ensures.position (λ x. uid_cmp x.name c.args.uid.now) (always_returns_same _ _ _ (λ a r f called. search rules)) in
    rw (← c.self.view_is) (sym (found_nowhere uid_cmp_total exact_uid (λ x. x.name) c.args.uid.now xs c.in-Err.field-0 ((rw c.deref.ensures.value at parts) (answers_rise uid_cmp_total exact_uid (λ x. x.name) c.args.uid.now xs c.self.invariant.actions_ascend))))
