-- Nothing blocks where paths are declared.
use Rattle.entity_store.specs.declared.request.Request.{Request}
use Rattle.entity_store.specs.Store.{Store}
use Rattle.policy_values.specs.Value.{Val}
use Rattle.access_tries.specs.Table.{Table}
use Rattle.schema_core.specs.EnvData.{LinkedEnvironment, declared_action}
use Rattle.schema_core.specs.Faults.{IsSchema}
use Rattle.schema_core.specs.Schema.{SchemaData}
use Rattle.typing_spec.specs.Conforms.{RequestConforms, StoreConforms, IsOf}
use Rattle.entity_loading.specs.Right.{BlocksAt}
use Rattle.entity_loading.specs.Blocked.{IsBlocked}
use Rattle.entity_manifest.specs.DeclaredPaths.{IsDeclaredTrie}

-- where the request, of the environment, and the store conform, a trie whose paths are declared there blocks
-- at no value
abbrev pub NothingBlocks : Type 0
NothingBlocks =
    (schema : SchemaData) → IsSchema schema → (env : LinkedEnvironment) (q : Request) →
    RequestConforms schema q → IsOf schema q env →
    (s : Store) → StoreConforms schema s → (t : Table) → IsDeclaredTrie schema (declared_action env) t →
    (v : Val) → ¬ BlocksAt t q s v

-- and no path of it is blocked in the store
abbrev pub NothingIsBlocked : Type 0
NothingIsBlocked =
    (schema : SchemaData) → IsSchema schema → (env : LinkedEnvironment) (q : Request) →
    RequestConforms schema q → IsOf schema q env →
    (s : Store) → StoreConforms schema s → (t : Table) → IsDeclaredTrie schema (declared_action env) t →
    (v : Val) → ¬ IsBlocked t q s v
