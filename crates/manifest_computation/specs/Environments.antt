-- The environment of a request among those of the schema.
use Rattle.std.specs.Prelude.{◌≡◌, Some}
use Rattle.entity_store.specs.declared.request.Request.{Request}
use Rattle.entity_store.specs.declared.request.RequestType.{RequestType}
use Rattle.entity_store.specs.Request.{IsWhole, request_type_of}
use Rattle.schema_core.specs.EnvData.{EnvData, request_type_in, unlinked_envs}
use Rattle.schema_core.specs.Faults.{IsSchema}
use Rattle.schema_core.specs.Schema.{SchemaData}
use Rattle.typing_spec.specs.Conforms.{RequestConforms}
use Rattle.reads_spec.specs.Among.{IsIn}
use Rattle.manifest_computation.specs.Slice.{env_of}

-- the environment of the schema that has the type of a request is the environment of the request
abbrev pub EnvironmentsAreOfTypes : Type 0
EnvironmentsAreOfTypes =
    (schema : SchemaData) → IsSchema schema → (env : EnvData) → IsIn env (unlinked_envs schema) →
    (q : Request) (t : RequestType) → request_type_in env ≡ Some t → request_type_of q ≡ Some t →
    env_of schema q ≡ Some env

-- an environment of the schema, which is the request's and has its type
pub record HasEnvironment (schema : SchemaData) (q : Request) : Type 0 where
  pub env : EnvData
  pub is : env_of schema q ≡ Some env
  pub among : IsIn env (unlinked_envs schema)
  pub type : RequestType
  pub in_env : request_type_in env ≡ Some type
  pub of_request : request_type_of q ≡ Some type

-- a whole request that conforms has one
abbrev pub EnvironmentsAreThere : Type 0
EnvironmentsAreThere =
    (schema : SchemaData) (q : Request) → IsWhole q → RequestConforms schema q → HasEnvironment schema q
