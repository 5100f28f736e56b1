-- What is asked of a schema, policies, a request and a store before there is a slice or a decision.
use Rattle.std.specs.Prelude.{List, IfSome}
use Rattle.entity_store.specs.declared.request.Request.{Request}
use Rattle.entity_store.specs.Request.{IsWhole}
use Rattle.entity_store.specs.Store.{Store}
use Rattle.policy_set.specs.Data.{PolicyData}
use Rattle.policy_set.specs.PolicySet.{PolicySetData}
use Rattle.reads_spec.specs.Reached.{ReachedConforms}
use Rattle.schema_core.specs.Schema.{SchemaData}
use Rattle.typing_spec.specs.Conforms.{RequestConforms, StoreConforms}
use Rattle.policy_validate.specs.Accepted.{IsAccepted}
use Rattle.policy_validate.specs.Typed.{typed_conditions}
use Rattle.manifest_computation.specs.Slice.{env_of}

-- every rule holds
pub record KeepRules (schema : SchemaData) (set : PolicySetData) (q : Request) (s : Store) : Type 0 where
  -- the request is whole, and conforms to the schema
  pub whole : IsWhole q
  pub request : RequestConforms schema q
  -- the store conforms to the schema
  pub store : StoreConforms schema s
  -- the policies are accepted
  pub policies : IsAccepted schema set

-- each entity that the policies reach on the request, in its environment, conforms, with those of its
-- ancestors that they ask for; of the other entities nothing is said
abbrev pub ReachedConform : SchemaData → List PolicyData → Request → Store → Type 0
ReachedConform schema ps q s =
    IfSome (env_of schema q) (λ env. ReachedConforms schema env (typed_conditions schema env ps) q s)

-- every rule holds, where that of the store is asked of the entities alone that the policies reach
pub record KeepReachedRules (schema : SchemaData) (set : PolicySetData)
    (q : Request) (s : Store) : Type 0 where
  pub whole : IsWhole q
  pub request : RequestConforms schema q
  pub reached : ReachedConform schema set.policies q s
  pub policies : IsAccepted schema set
