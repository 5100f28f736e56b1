-- The scope of a policy: some declared action has to meet it.
use Rattle.std.specs.Prelude.{◌&&◌, not, if◌then◌else◌, Bool, true, false, ℕ, List, [], ◌∷◌, None, is_some}
use Rattle.std.specs.List.{list_any, list_all}
use Rattle.std.specs.Ordering.{is_eq}
use Rattle.policy_values.specs.Uid.{text_cmp, uid_eq}
use Rattle.policy_set.specs.Data.{TemplateData}
use Rattle.policy_set.specs.declared.constraint.EntityReference.{EntityReference}
use Rattle.policy_set.specs.declared.constraint.EntityReference.TheVariants.{EUID, Slot}
use Rattle.policy_set.specs.declared.constraint.PrincipalOrResourceConstraint.{PrincipalOrResourceConstraint}
use Rattle.policy_set.specs.declared.constraint.PrincipalOrResourceConstraint.TheVariants.{Any, Eq, In, Is, IsIn}
use Rattle.policy_set.specs.declared.constraint.ActionConstraint.{ActionConstraint}
use Rattle.policy_set.specs.declared.constraint.ActionConstraint.TheVariants as action
use Rattle.schema_core.specs.Schema.{SchemaData, ActionData, action_at, type_below}
use Rattle.schema_core.specs.Within.{is_type_within, is_action_within}
use Rattle.policy_scope.specs.declared.scope.Side.{Side}
use Rattle.policy_scope.specs.declared.scope.Side.TheVariants.{Principal, Resource}
use Rattle.findings.specs.declared.rules.InvalidActionApplication.{InvalidActionApplication}

-- `==` is met by the entity's type, and by every type where a slot stands
abbrev pub equal_meets : EntityReference → List ℕ → Bool
equal_meets (EUID u) n = is_eq (text_cmp u.entity_type n)
equal_meets Slot n = true

module _ (schema : SchemaData) where
  -- `in` is met by the entity's type and its descendants, and by every type where a slot stands
  abbrev pub in_meets : EntityReference → List ℕ → Bool
  in_meets (EUID u) n = is_type_within schema n u.entity_type
  in_meets Slot n = true

  -- the type meets what the scope asks of the principal, or of the resource
  abbrev pub type_meets : PrincipalOrResourceConstraint → List ℕ → Bool
  type_meets Any n = true
  type_meets (Eq r) n = equal_meets r n
  type_meets (In r) n = in_meets r n
  type_meets (Is m) n = is_eq (text_cmp m n)
  type_meets (IsIn m r) n = is_eq (text_cmp m n) && in_meets r n

  -- the action meets what the scope asks of the action: `in` a list of declared actions is met by these and
  -- their descendants, and a list with another one by none
  abbrev pub action_meets : ActionConstraint → ActionData → Bool
  action_meets action.Any a = true
  action_meets (action.Eq u) a = uid_eq u a.name
  action_meets (action.In us) a =
      list_all (λ u. is_some (action_at schema u)) us && list_any (is_action_within schema a.name) us

  -- the action has a principal type and a resource type that meet these parts of a scope
  abbrev pub are_met : PrincipalOrResourceConstraint → PrincipalOrResourceConstraint → ActionData → Bool
  are_met p r a = list_any (type_meets p) a.principals && list_any (type_meets r) a.resources

  abbrev pub types_meet : TemplateData → ActionData → Bool
  types_meet t a = are_met t.principal t.resource a

  -- some action meets the scope of these parts
  abbrev pub some_action_meets : PrincipalOrResourceConstraint →
      ActionConstraint → PrincipalOrResourceConstraint → Bool
  some_action_meets p c r = list_any (λ a. action_meets c a && are_met p r a) schema.action_ids

  abbrev pub is_applicable : TemplateData → Bool
  is_applicable t = some_action_meets t.principal t.action t.resource

-- the types that an action applies to: of principals, or of resources
abbrev pub types_for : Side → ActionData → List (List ℕ)
types_for Principal a = a.principals
types_for Resource a = a.resources

module _ (schema : SchemaData) (side : Side) (c : ActionConstraint) where
  -- of the types of the actions that meet the constraint, some passes the test
  abbrev pub some_type : (List ℕ → Bool) → Bool
  some_type test =
      list_any (λ a. action_meets schema c a && list_any test (types_for side a)) schema.action_ids

  -- none of those types is this one, and some is a descendant of it
  abbrev pub only_descendants : List ℕ → Bool
  only_descendants n =
      not (some_type (λ other. is_eq (text_cmp n other))) && some_type (λ other. type_below schema other n)

  -- `in` would be met in place of `==`: by descendants of the entity's type alone
  abbrev pub in_would_fix : PrincipalOrResourceConstraint → Bool
  in_would_fix (Eq (EUID u)) = only_descendants u.entity_type
  in_would_fix other = false

-- what is found of a scope of these parts that no action meets
abbrev pub application_finding : SchemaData → List ℕ → PrincipalOrResourceConstraint →
    ActionConstraint → PrincipalOrResourceConstraint → InvalidActionApplication
application_finding schema policy p c r = record {
  source_loc = None;
  policy_id = policy;
  would_in_fix_principal = in_would_fix schema Principal c p;
  would_in_fix_resource = in_would_fix schema Resource c r;
}

-- some action has to meet the scope
abbrev pub scope_findings : SchemaData → List ℕ → PrincipalOrResourceConstraint →
    ActionConstraint → PrincipalOrResourceConstraint → List InvalidActionApplication
scope_findings schema policy p c r =
    if some_action_meets schema p c r then [] else application_finding schema policy p c r ∷ []

abbrev pub application_findings : SchemaData → TemplateData → List InvalidActionApplication
application_findings schema t = scope_findings schema t.id t.principal t.action t.resource
