-- The environments that meet the scope of a template: in these its body is typed, once.
use Rattle.std.specs.Prelude.{ℕ, false, List, map, flat_map, filter}
use Rattle.std.specs.Option.{option_map_or}
use Rattle.schema_core.specs.EnvData.{EnvData, unlinked, principal_in}
use Rattle.schema_core.specs.Environments.{environment}
use Rattle.schema_core.specs.Schema.{ActionData, SchemaData}
use Rattle.policy_set.specs.Data.{TemplateData}
use Rattle.policy_scope.specs.Scope.{type_meets, action_meets}
use Rattle.typecheck_rules.specs.Check.{Check, check_walked, condition_walked}
use Rattle.link_spec.specs.Behind.{refused}

module _ (schema : SchemaData) (t : TemplateData) where
  -- those of an action and a principal type, without slots; of an action; of the schema
  abbrev pub met_at : ActionData → List ℕ → List EnvData
  met_at a p =
      map (λ r. unlinked a (environment p a.name r)) (filter (type_meets schema t.resource) a.resources)

  abbrev pub met_with : ActionData → List EnvData
  met_with a = flat_map (met_at a) (filter (type_meets schema t.principal) a.principals)

  abbrev pub met_envs : List EnvData
  met_envs = flat_map met_with (filter (action_meets schema t.action) schema.action_ids)

  -- what the walk of the body alone comes to
  abbrev pub body_check : EnvData → Check
  body_check env = check_walked (condition_walked schema env t.body)

  -- what the check of the condition says where the scope names an action that is not declared
  abbrev pub refused_check : EnvData → Check
  refused_check env =
      refused (option_map_or (type_meets schema t.principal) (principal_in env) false)
      (condition_walked schema env t.body)
