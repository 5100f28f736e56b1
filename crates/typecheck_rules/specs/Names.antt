-- The rule of names: each id, and each type that `is` tests for, is known.
use Rattle.std.specs.Prelude.{Bool, ◌&&◌}
use Rattle.std.specs.List.{list_all}
use Rattle.policy_values.specs.declared.entity_uid.EntityUID.{EntityUID}
use Rattle.policy_expressions.specs.Tree.{Tree, Mark}
use Rattle.schema_core.specs.Schema.{SchemaData}
use Rattle.findings.specs.Mentioned.{Mentioned, an_id, a_type, names_in, is_known_type, is_known_action}
use Rattle.typing_spec.specs.Conforms.{is_listed}

module _ (schema : SchemaData) where
  -- an id of a known type; that of an action is declared, and that of an enumerated type is listed
  abbrev pub is_known_id : EntityUID → Bool
  is_known_id u = is_known_type schema u.entity_type && (is_known_action schema u && is_listed schema u)

  abbrev pub is_known_name : Mentioned → Bool
  is_known_name (an_id u) = is_known_id u
  is_known_name (a_type n) = is_known_type schema n

  -- each name in an expression is known
  abbrev pub has_known_names : {T : Type 0} → Tree (Mark T) → Bool
  has_known_names e = list_all (λ m. is_known_name m.0) (names_in e)
