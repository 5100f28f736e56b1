-- Scopes that name an action that is not declared.
use Rattle.std.specs.Prelude.{Bool, false, is_none, ◌&&◌}
use Rattle.schema_core.specs.EnvData.{literal_type}
use Rattle.schema_core.specs.Schema.{SchemaData}
use Rattle.policy_set.specs.declared.constraint.ActionConstraint.{ActionConstraint}
use Rattle.policy_set.specs.declared.constraint.ActionConstraint.TheVariants.{Any, Eq}
use Rattle.policy_set.specs.declared.constraint.PrincipalOrResourceConstraint.{PrincipalOrResourceConstraint}
use Rattle.policy_scope.specs.PlainScope.{is_plain_scope}

-- the id of the action has no type, and all others of the scope have types
abbrev pub names_no_action : SchemaData →
    PrincipalOrResourceConstraint → ActionConstraint → PrincipalOrResourceConstraint → Bool
names_no_action schema p (Eq u) r = is_none (literal_type schema u) && is_plain_scope schema p Any r
names_no_action schema p c r = false
