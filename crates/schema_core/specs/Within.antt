-- What a schema has below a type, and below an action, these themselves with it.
use Rattle.std.specs.Prelude.{ℕ, Bool, ◌||◌, List}
use Rattle.std.specs.Ordering.{is_eq}
use Rattle.policy_values.specs.declared.entity_uid.EntityUID.{EntityUID}
use Rattle.policy_values.specs.Uid.{text_cmp, uid_eq}
use Rattle.schema_core.specs.Schema.{SchemaData, type_below, action_below}

module _ (schema : SchemaData) where
  -- the type is the other, or among its descendants
  abbrev pub is_type_within : List ℕ → List ℕ → Bool
  is_type_within name above = is_eq (text_cmp name above) || type_below schema name above

  -- the action is the other, or among its descendants
  abbrev pub is_action_within : EntityUID → EntityUID → Bool
  is_action_within uid above = uid_eq uid above || action_below schema uid above
