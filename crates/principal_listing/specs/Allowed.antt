-- The principals of a store that may do what a request asks.
use Rattle.std.specs.Prelude.{◌≡◌, ℕ, Bool, true, false, ◌&&◌, List, Some, None, IsSome, map, filter}
use Rattle.std.specs.Option.{option_map_or}
use Rattle.policy_values.specs.Reaches.{has}
use Rattle.policy_values.specs.declared.entity_uid.EntityUID.{EntityUID}
use Rattle.policy_values.specs.Uid.{text_cmp}
use Rattle.entity_store.specs.declared.request.Request.{Request}
use Rattle.entity_store.specs.Request.{action_of}
use Rattle.entity_store.specs.Store.{Store}
use Rattle.policy_set.specs.Data.{PolicyData}
use Rattle.policy_set.specs.PolicySet.{PolicySetData}
use Rattle.policy_set.specs.Response.{response}
use Rattle.policy_set.specs.declared.response.Decision.{Decision}
use Rattle.policy_set.specs.declared.response.Decision.TheVariants.{Allow, Deny}
use Rattle.schema_core.specs.Schema.{SchemaData, action_at}
use Rattle.typing_spec.specs.Conforms.{StoreConforms}
use Rattle.entity_manifest.specs.Accepted.{IsAccepted}
use Rattle.conformance.specs.RequestRules.{first_request_fault}

-- the request with this principal, and with the principal passed over
abbrev pub asked_by : Request → EntityUID → Request
asked_by q u = record q { principal = Some u }

abbrev pub passed_over : Request → Request
passed_over q = record q { principal = None }

-- the other entries are there
pub record IsWholeBut (q : Request) : Type 0 where
  pub action : IsSome q.action
  pub resource : IsSome q.resource
  pub context : IsSome q.context

-- every rule holds that does not speak of the principal: the other entries are there and break none, the
-- store conforms, and the policies are accepted
pub record KeepOtherRules (schema : SchemaData) (set : PolicySetData) (q : Request) (s : Store) : Type 0 where
  pub whole : IsWholeBut q
  pub request : first_request_fault schema (λ _. true) (passed_over q) ≡ None
  pub store : StoreConforms schema s
  pub policies : IsAccepted schema set

-- whether the request's action applies to principals of the type
abbrev pub applies_to : SchemaData → Request → List ℕ → Bool
applies_to schema q n =
    option_map_or (λ a. has text_cmp a.principals n) (action_at schema (action_of q)) false

abbrev pub is_allow : Decision → Bool
is_allow Allow = true
is_allow Deny = false

-- whether the action applies to principals of the id's type, and the decision for it on the whole store is
-- Allow
abbrev pub is_allowed : SchemaData → List PolicyData → Request → Store → EntityUID → Bool
is_allowed schema ps q s u =
    applies_to schema q u.entity_type && is_allow (response ps (asked_by q u) s).decision

-- the ids of the store for which that is so, ascending as they are in the store
abbrev pub allowed_principals : SchemaData → List PolicyData → Request → Store → List EntityUID
allowed_principals schema ps q s = filter (is_allowed schema ps q s) (map (λ e. e.uid) s)
