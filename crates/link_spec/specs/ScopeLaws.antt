-- The scope of a policy decides in which environments its body is typed.
use Rattle.std.specs.Prelude.{◌≡◌, ℕ, nat_lt, false, List, Option, Some, IsTrue, if◌then◌else◌}
use Rattle.policy_values.specs.Reaches.{has}
use Rattle.policy_values.specs.Uid.{text_cmp}
use Rattle.policy_expressions.specs.Plain.{Plain}
use Rattle.policy_expressions.specs.Slots.{has_slot}
use Rattle.policy_expressions.specs.Tree.{depth_of}
use Rattle.schema_core.specs.Environments.{Environment}
use Rattle.schema_core.specs.Faults.{IsSchema}
use Rattle.schema_core.specs.Schema.{ActionData, SchemaData, action_at}
use Rattle.typing_spec.specs.Capability.{Capability}
use Rattle.policy_set.specs.declared.constraint.PrincipalOrResourceConstraint.{PrincipalOrResourceConstraint}
use Rattle.policy_set.specs.declared.constraint.ActionConstraint.{ActionConstraint}
use Rattle.policy_set.specs.Data.{TemplateData}
use Rattle.policy_set.specs.Condition.{scope_of, condition_of}
use Rattle.link_spec.specs.Linked.{linked_env}
use Rattle.typecheck_rules.specs.Check.{TooDeep, checked, condition_walked}
use Rattle.typecheck_rules.specs.Walked.{Success}
use Rattle.typecheck_rules.specs.Walk.{walked}
use Rattle.policy_scope.specs.PlainScope.{is_plain_scope}
use Rattle.link_spec.specs.Parts.{part_typing, whole_part, is_met_in, Stands}
use Rattle.link_spec.specs.Behind.{check_behind}

-- an environment of the schema: a declared action, with a principal type and a resource type that it applies
-- to
pub record IsEnvironment (schema : SchemaData) (a : ActionData) (e : Environment) : Type 0 where
  pub action : action_at schema a.name ≡ Some a
  pub name : e.action ≡ a.name
  pub principal : IsTrue (has text_cmp a.principals e.principal)
  pub resource : IsTrue (has text_cmp a.resources e.resource)

abbrev pub ScopeIsDecided : Type 0
ScopeIsDecided =
    (schema : SchemaData) → IsSchema schema → (a : ActionData) (e : Environment) → IsEnvironment schema a e →
    (p : PrincipalOrResourceConstraint) (c : ActionConstraint) (r : PrincipalOrResourceConstraint) →
    IsTrue (is_plain_scope schema p c r) →
    (s s' : Option (List ℕ)) → Stands p e.principal s → Stands r e.resource s' → (cs : List Capability) →
    walked schema (linked_env a e s s') cs (scope_of p c r) ≡
    Success (part_typing (whole_part schema a e s s' p c r))

abbrev pub ScopeIsMet : Type 0
ScopeIsMet =
    (schema : SchemaData) (a : ActionData) (e : Environment) (s s' : Option (List ℕ))
    (p : PrincipalOrResourceConstraint) (c : ActionConstraint) (r : PrincipalOrResourceConstraint) →
    (whole_part schema a e s s' p c r).meets ≡ is_met_in schema a e p c r

abbrev pub ConditionsFollowScopes : Type 0
ConditionsFollowScopes =
    (schema : SchemaData) → IsSchema schema → (a : ActionData) (e : Environment) → IsEnvironment schema a e →
    (t : TemplateData) → IsTrue (is_plain_scope schema t.principal t.action t.resource) →
    (s s' : Option (List ℕ)) → Stands t.principal e.principal s → Stands t.resource e.resource s' →
    checked schema (linked_env a e s s') (condition_of t) ≡
    (if nat_lt 200 (depth_of (condition_of t)) then TooDeep else
    check_behind (whole_part schema a e s s' t.principal t.action t.resource)
    (is_met_in schema a e t.principal t.action t.resource)
    (condition_walked schema (linked_env a e s s') t.body))

-- what stands for the slots does not matter to a body without slots
abbrev pub BodiesReadNoSlots : Type 0
BodiesReadNoSlots =
    (schema : SchemaData) (a : ActionData) (e : Environment) (p r p' r' : Option (List ℕ)) (x : Plain) →
    has_slot x ≡ false →
    condition_walked schema (linked_env a e p r) x ≡ condition_walked schema (linked_env a e p' r') x
