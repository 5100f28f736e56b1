-- The environments of requests: which types a request has, where its action is declared and where it is not.
use Rattle.std.specs.Prelude.{ℕ, List, [], ◌∷◌, Option, Some, None, map, flat_map}
use Rattle.policy_values.specs.declared.entity_uid.EntityUID.{EntityUID}
use Rattle.entity_store.specs.declared.request.RequestType.{RequestType}
use Rattle.schema_types.specs.declared.kinds.OpenTag.TheVariants.{OpenAttributes, ClosedAttributes}
use Rattle.schema_types.specs.Ty.{Ty, record_of, any_entity, entity, action, Attrs, no_attrs}
use Rattle.schema_core.specs.Schema.{TypeData, ActionData, SchemaData, type_at, action_at}
use Rattle.schema_core.specs.Environments.{Environment, environments_of}

-- an environment, with the attributes of the context, and the types of what stands for the slots
pub record LinkedEnvironment : Type 0 where
  pub environment : Environment
  pub context : Attrs
  pub principal_slot : Option (List ℕ)
  pub resource_slot : Option (List ℕ)

-- the action is declared; or nothing is known of the request
pub data EnvData : Type 0 where
  declared_action : LinkedEnvironment → EnvData
  undeclared_action : EnvData

-- the types of the principal and of the resource, and the action
abbrev pub principal_in : EnvData → Option (List ℕ)
principal_in (declared_action e) = Some e.environment.principal
principal_in undeclared_action = None

abbrev pub action_in : EnvData → Option EntityUID
action_in (declared_action e) = Some e.environment.action
action_in undeclared_action = None

abbrev pub resource_in : EnvData → Option (List ℕ)
resource_in (declared_action e) = Some e.environment.resource
resource_in undeclared_action = None

-- the three together
abbrev pub request_type_in : EnvData → Option RequestType
request_type_in (declared_action e) = Some (record {
  principal = e.environment.principal;
  action = e.environment.action;
  resource = e.environment.resource;
})
request_type_in undeclared_action = None

-- the types of what stands for the slots
abbrev pub principal_slot_in : EnvData → Option (List ℕ)
principal_slot_in (declared_action e) = e.principal_slot
principal_slot_in undeclared_action = None

abbrev pub resource_slot_in : EnvData → Option (List ℕ)
resource_slot_in (declared_action e) = e.resource_slot
resource_slot_in undeclared_action = None

-- the type of an id: an action's, where it is a declared action; an entity's, where its type is declared
abbrev pub id_type : EntityUID → Option ActionData → Option TypeData → Option Ty
id_type u (Some a) _ = Some (action u.entity_type no_attrs)
id_type u None (Some t) = Some (entity (u.entity_type ∷ []))
id_type u None None = None

abbrev pub literal_type : SchemaData → EntityUID → Option Ty
literal_type s u = id_type u (action_at s u) (type_at s u.entity_type)

-- the types of the four entries of a request: of any entity and of any record, where nothing is known
abbrev pub principal_type_in : EnvData → Ty
principal_type_in (declared_action e) = entity (e.environment.principal ∷ [])
principal_type_in undeclared_action = any_entity

abbrev pub action_type_in : SchemaData → EnvData → Option Ty
action_type_in s (declared_action e) = literal_type s e.environment.action
action_type_in s undeclared_action = Some any_entity

abbrev pub resource_type_in : EnvData → Ty
resource_type_in (declared_action e) = entity (e.environment.resource ∷ [])
resource_type_in undeclared_action = any_entity

abbrev pub context_type_in : EnvData → Ty
context_type_in (declared_action e) = record_of e.context ClosedAttributes
context_type_in undeclared_action = record_of no_attrs OpenAttributes

-- an environment of the action, with the action's context and without slots
abbrev pub unlinked : ActionData → Environment → EnvData
unlinked a e = declared_action
    record { environment = e; context = a.context; principal_slot = None; resource_slot = None }

-- all of them, of an action and of a schema
abbrev pub unlinked_of : ActionData → List EnvData
unlinked_of a = map (unlinked a) (environments_of a)

abbrev pub unlinked_envs : SchemaData → List EnvData
unlinked_envs s = flat_map unlinked_of s.action_ids
