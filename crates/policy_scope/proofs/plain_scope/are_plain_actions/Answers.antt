use Rattle.std.proofs.Common.{◌≡◌, List, [], ◌∷◌, Some, ◌∙◌}
use Rattle.std.specs.Prelude.{slice_get, unwrap_or}
use Rattle.std.specs.List.{list_all}
use Rattle.policy_values.specs.declared.entity_uid.EntityUID.{EntityUID}
use Rattle.schema_core.specs.Schema.{SchemaData}
use Rattle.policy_scope.specs.PlainScope.{are_plain_actions, is_action_of}
use Rattle.policy_scope.proofs.plain_scope.are_plain_actions.Goals as goal

by_first : (schema : SchemaData) (us : List EntityUID) (u : EntityUID) → Some u ≡ slice_get us 0 → list_all (is_action_of schema u.entity_type) us ≡ are_plain_actions schema us
by_first schema [] u h = absurd (cc)
by_first schema (v ∷ us) u h = λ j. list_all (is_action_of schema (unwrap_or (h j) u).entity_type) (v ∷ us)

pub returns-in-Some : goal.returns-in-Some
returns-in-Some c =
    let s = c.args.schema.now in
    let us = c.args.uids.now in
    c.are_actions_of.ensures ∙ (λ j. list_all (is_action_of s (c.entity_type.ensures j)) us) ∙ by_first s us c.in-Some.first.now c.in-Some.ensures.value
