-- What is asked of actions beside their ids.
use Rattle.std.specs.Prelude.{◌&&◌, Bool}
use Rattle.std.specs.List.{list_any}
use Rattle.std.specs.Ordering.{is_eq}
use Rattle.policy_values.specs.Uid.{text_cmp}
use Rattle.schema_core.specs.Schema.{SchemaData, ActionData, type_below}
use Rattle.policy_scope.specs.Scope.{are_met, types_for}
use Rattle.policy_scope.specs.declared.met.Asked.{Asked}
use Rattle.policy_scope.specs.declared.met.Asked.TheVariants as asked

module _ (schema : SchemaData) where
  -- the action has what is asked
  abbrev pub has_asked : Asked → ActionData → Bool
  has_asked (asked.Applies p r) a = are_met schema p.now r.now a
  has_asked (asked.Type side n) a = list_any (λ other. is_eq (text_cmp n.now other)) (types_for side a)
  has_asked (asked.Below side n) a = list_any (λ ty. type_below schema ty n.now) (types_for side a)

  -- of the actions that pass the test, some has it
  abbrev pub some_has : Asked → (ActionData → Bool) → Bool
  some_has x test = list_any (λ a. test a && has_asked x a) schema.action_ids
