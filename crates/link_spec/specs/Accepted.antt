-- Templates and links that are accepted.
use Rattle.std.specs.Prelude.{◌≤◌, List, [], Option, IsTrue, IfSome, IsSomeAnd}
use Rattle.std.specs.List.{AllByRecursion}
use Rattle.policy_values.specs.declared.entity_uid.EntityUID.{EntityUID}
use Rattle.policy_expressions.specs.declared.kinds.SlotValues.{SlotValues}
use Rattle.policy_expressions.specs.Tree.{depth_of}
use Rattle.schema_core.specs.Schema.{SchemaData}
use Rattle.schema_core.specs.EnvData.{EnvData}
use Rattle.policy_expressions.specs.Plain.{Plain}
use Rattle.typing_spec.specs.Operands.{is_boolean}
use Rattle.typing_spec.specs.Typing.{types}
use Rattle.policy_set.specs.Data.{TemplateData}
use Rattle.policy_set.specs.Condition.{condition_of}
use Rattle.policy_set.specs.Links.{linked_of}
use Rattle.link_spec.specs.Linked.{linked_envs}
use Rattle.findings.specs.Mentioned.{is_known_type}
use Rattle.typecheck_rules.specs.Names.{has_known_names}
use Rattle.policy_scope.specs.Scope.{is_applicable}

module _ (schema : SchemaData) where
  -- the condition has a type of booleans, with nothing known before it
  abbrev pub IsTyped : Plain → EnvData → Type 0
  IsTyped e env = IsSomeAnd (types schema env [] e) (λ x. IsTrue (is_boolean x.type))

  abbrev pub IsTypedIn : Plain → List EnvData → Type 0
  IsTypedIn e envs = AllByRecursion (IsTyped e) envs

  -- a template or a static policy: its names are known, some action meets its scope, its condition is no
  -- deeper than 200 and has a type in each of its environments
  pub record IsAcceptedTemplate (t : TemplateData) : Type 0 where
    pub names : IsTrue (has_known_names schema (condition_of t))
    pub scope : IsTrue (is_applicable schema t)
    pub depth : depth_of (condition_of t) ≤ 200
    pub typed : IsTypedIn (condition_of t) (linked_envs schema t)

  -- what a link gives for a slot is of a known type
  abbrev pub HasKnownType : Option EntityUID → Type 0
  HasKnownType o = IfSome o (λ u. IsTrue (is_known_type schema u.entity_type))

  -- a link of the template: what it gives for slots is of known types, and some action meets its own scope
  pub record IsAcceptedLink (w : SlotValues) (t : TemplateData) : Type 0 where
    pub principal : HasKnownType w.principal
    pub resource : HasKnownType w.resource
    pub scope : IsTrue (is_applicable schema (linked_of w t))
