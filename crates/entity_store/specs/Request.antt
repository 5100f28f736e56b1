-- What a request asks about.
use Rattle.std.specs.Prelude.{◌≡◌, [], Option, Some, None, IsSome}
use Rattle.std.specs.declared.cmp.Ordering.{Ordering}
use Rattle.std.specs.declared.cmp.Ordering.TheVariants.{Equal}
use Rattle.std.specs.Ordering.{ordering_then}
use Rattle.std.proofs.Common.{ap}
use Rattle.std.proofs.lemmas.Map.Lookups.{exact_bytes, exact_pairs}
use Rattle.policy_values.specs.Uid.{text_cmp, uid_cmp, exact_uid, copied_uid}
use Rattle.policy_values.specs.declared.entity_uid.EntityUID.{EntityUID}
use Rattle.entity_store.specs.declared.request.Request.{Request}
use Rattle.entity_store.specs.declared.request.RequestType.{RequestType}

-- all four entries are there
pub record IsWhole (q : Request) : Type 0 where
  pub principal : IsSome q.principal
  pub action : IsSome q.action
  pub resource : IsSome q.resource
  pub context : IsSome q.context

-- the id that an entry has; only of whole requests is it asked, so what stands for a missing id does
-- not matter
abbrev pub known : Option EntityUID → EntityUID
known (Some uid) = uid
known None = record { entity_type = []; eid = [] }

-- who asks
abbrev pub principal_of : Request → EntityUID
principal_of q = known q.principal

-- what is asked for
abbrev pub action_of : Request → EntityUID
action_of q = known q.action

-- on what it would act
abbrev pub resource_of : Request → EntityUID
resource_of q = known q.resource

-- the types of the principal and the resource, and the action; none where one of the three is missing
abbrev pub type_of_ids : Option EntityUID → Option EntityUID → Option EntityUID → Option RequestType
type_of_ids (Some p) (Some a) (Some r) =
    Some (record { principal = p.entity_type; action = a; resource = r.entity_type })
type_of_ids _ _ _ = None

abbrev pub request_type_of : Request → Option RequestType
request_type_of q = type_of_ids q.principal q.action q.resource

-- request types by action, then by the principal's type, then by the resource's type
abbrev pub request_type_cmp : RequestType → RequestType → Ordering
request_type_cmp a b = ordering_then (uid_cmp a.action b.action)
    (ordering_then (text_cmp a.principal b.principal) (text_cmp a.resource b.resource))

-- request types that compare equal are equal, and so are copies
pub exact_request_type : (x y : RequestType) → request_type_cmp x y ≡ Equal → x ≡ y
exact_request_type x y h =
    ap (λ p. record { action = p.0; principal = p.1.0; resource = p.1.1 })
    (exact_pairs uid_cmp (λ p q. ordering_then (text_cmp p.0 q.0) (text_cmp p.1 q.1))
    exact_uid (exact_pairs text_cmp text_cmp exact_bytes exact_bytes)
    (x.action, (x.principal, x.resource)) (y.action, (y.principal, y.resource)) h)

pub copied_request_type : (x y : RequestType) →
    ((y.action.entity_type ≡ x.action.entity_type) × (y.action.eid ≡ x.action.eid)) ×
    ((y.principal ≡ x.principal) × (y.resource ≡ x.resource)) →
    y ≡ x
copied_request_type x y h = let action : y.action ≡ x.action = copied_uid x.action y.action h.0 in
    λ i. record { action = action i; principal = h.1.0 i; resource = h.1.1 i }
