-- Scopes that are typed by their names alone.
use Rattle.std.specs.Prelude.{Bool, true, false, ◌&&◌, ℕ, List, [], ◌∷◌, is_some}
use Rattle.std.specs.List.{list_all}
use Rattle.std.specs.Ordering.{is_eq}
use Rattle.policy_values.specs.declared.entity_uid.EntityUID.{EntityUID}
use Rattle.policy_values.specs.Uid.{text_cmp}
use Rattle.policy_set.specs.declared.constraint.EntityReference.{EntityReference}
use Rattle.policy_set.specs.declared.constraint.EntityReference.TheVariants.{EUID, Slot}
use Rattle.policy_set.specs.declared.constraint.PrincipalOrResourceConstraint.{PrincipalOrResourceConstraint}
use Rattle.policy_set.specs.declared.constraint.PrincipalOrResourceConstraint.TheVariants.{Eq, In, IsIn}
use Rattle.policy_set.specs.declared.constraint.ActionConstraint.{ActionConstraint}
use Rattle.policy_set.specs.declared.constraint.ActionConstraint.TheVariants as action
use Rattle.schema_core.specs.EnvData.{literal_type}
use Rattle.schema_core.specs.Schema.{SchemaData, action_at}

module _ (schema : SchemaData) where
  -- an id has a type: it is that of a declared action, or its entity type is declared
  abbrev pub is_plain_reference : EntityReference → Bool
  is_plain_reference (EUID u) = is_some (literal_type schema u)
  is_plain_reference Slot = true

  abbrev pub is_plain_side : PrincipalOrResourceConstraint → Bool
  is_plain_side (Eq r) = is_plain_reference r
  is_plain_side (In r) = is_plain_reference r
  is_plain_side (IsIn n r) = is_plain_reference r
  is_plain_side c = true

  -- a declared action of the type
  abbrev pub is_action_of : List ℕ → EntityUID → Bool
  is_action_of n u = is_some (action_at schema u) && is_eq (text_cmp n u.entity_type)

  -- a list has actions, all declared and of the type of its first
  abbrev pub are_plain_actions : List EntityUID → Bool
  are_plain_actions [] = false
  are_plain_actions (u ∷ us) = list_all (is_action_of u.entity_type) (u ∷ us)

  abbrev pub is_plain_action : ActionConstraint → Bool
  is_plain_action action.Any = true
  is_plain_action (action.Eq u) = is_some (literal_type schema u)
  is_plain_action (action.In us) = are_plain_actions us

  abbrev pub is_plain_scope : PrincipalOrResourceConstraint →
      ActionConstraint → PrincipalOrResourceConstraint → Bool
  is_plain_scope p c r = (is_plain_side p && is_plain_action c) && is_plain_side r
