use Rattle.std.proofs.Common.{◌<◌, length, Some, rules, sym, ◌∙◌, ap}
use Rattle.std.specs.Cmp.Lexicographic.{nat_list_cmp_total}
use Rattle.std.proofs.lemmas.Map.Lookups.{exact_bytes}
use Rattle.policy_values.specs.Uid.{text_cmp}
use Rattle.std.proofs.lemmas.Fn.{always_returns_same}
use Rattle.schema_core.proofs.Found.{found_here, found_nowhere, answers_rise}
use Rattle.schema_core.proofs.validator_schema.ValidatorSchema.get_entity_type.Goals as goal

pub returns-in-Ok : goal.returns-in-Ok
returns-in-Ok c =
    let xs = c.self.inside.entity_types.items in
    let lt : c.in-Ok.i < length xs = rw c.deref.ensures.value at c.in-Ok.ensures.bound in
    let here = c.in-Ok.ensures.position (λ x. text_cmp x.name c.args.name.now) (always_returns_same _ _ _ (λ a r f called. search rules)) c.index.result.now in
    let found = found_here nat_list_cmp_total exact_bytes (λ x. x.name) c.args.name.now xs c.self.invariant.types_ascend c.in-Ok.i c.index.result.now lt (rw c.deref.ensures.value at here) in
    rw (← c.self.view_is) (sym (found ∙ ap Some (sym c.index.ensures)))

pub returns-in-Err : goal.returns-in-Err
returns-in-Err c =
    let xs = c.self.inside.entity_types.items in
    let parts = c.in-Err.ensures.position (λ x. text_cmp x.name c.args.name.now) (always_returns_same _ _ _ (λ a r f called. search rules)) in
    rw (← c.self.view_is) (sym (found_nowhere nat_list_cmp_total exact_bytes (λ x. x.name) c.args.name.now xs c.in-Err.field-0 ((rw c.deref.ensures.value at parts) (answers_rise nat_list_cmp_total exact_bytes (λ x. x.name) c.args.name.now xs c.self.invariant.types_ascend))))
