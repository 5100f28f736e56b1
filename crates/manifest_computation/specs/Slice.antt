-- The slice of a store for a request.
use Rattle.std.specs.Prelude.{List, [], Option, Some, None, option_map}
use Rattle.entity_store.specs.declared.request.Request.{Request}
use Rattle.entity_store.specs.Request.{principal_of, action_of, resource_of}
use Rattle.entity_store.specs.Store.{Store}
use Rattle.schema_core.specs.Environments.{environment}
use Rattle.schema_core.specs.EnvData.{EnvData, unlinked}
use Rattle.schema_core.specs.Schema.{SchemaData, action_at}
use Rattle.policy_set.specs.Data.{PolicyData}
use Rattle.reads_spec.specs.Cover.{restricted}
use Rattle.policy_validate.specs.Typed.{typed_conditions}

-- the environment of a request: its action, with the types of its principal and its resource; none where the
-- action is not declared
abbrev pub env_of : SchemaData → Request → Option EnvData
env_of schema q = option_map
    (λ a. unlinked a (environment (principal_of q).entity_type a.name (resource_of q).entity_type))
    (action_at schema (action_of q))

-- the store restricted to what the policies read on the request, each by its own condition with its types in
-- the environment; without an environment there is nothing
abbrev pub slice_in : SchemaData → List PolicyData → Request → Store → Option EnvData → Store
slice_in schema ps q s None = []
slice_in schema ps q s (Some env) = restricted schema env (typed_conditions schema env ps) q s

-- the slice: the store restricted to what the policies read on the request in its environment
abbrev pub slice : SchemaData → List PolicyData → Request → Store → Store
slice schema ps q s = slice_in schema ps q s (env_of schema q)
