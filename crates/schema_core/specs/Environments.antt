-- The environments in which a policy is looked at: an action, and a principal type and a resource type that
-- it applies to.
use Rattle.std.specs.Prelude.{ℕ, List, map, flat_map}
use Rattle.policy_values.specs.declared.entity_uid.EntityUID.{EntityUID}
use Rattle.schema_core.specs.Schema.{ActionData, SchemaData}

pub record Environment : Type 0 where
  pub principal : List ℕ
  pub action : EntityUID
  pub resource : List ℕ

abbrev pub environment : List ℕ → EntityUID → List ℕ → Environment
environment p u r = record { principal = p; action = u; resource = r }

-- those of an action and a principal type, with each resource type
abbrev pub environments_at : ActionData → List ℕ → List Environment
environments_at a p = map (environment p a.name) a.resources

-- those of an action, with each principal type
abbrev pub environments_of : ActionData → List Environment
environments_of a = flat_map (environments_at a) a.principals

-- those of a schema, with each action
abbrev pub environments : SchemaData → List Environment
environments s = flat_map environments_of s.action_ids
