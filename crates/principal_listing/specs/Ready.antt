-- What principals are decided by.
use Rattle.std.specs.Prelude.{◌≡◌, ◌&&◌, ℕ, Bool, false, List, Option}
use Rattle.std.specs.Option.{option_copied, option_map_or}
use Rattle.policy_values.specs.Reaches.{has}
use Rattle.policy_values.specs.declared.entity_uid.EntityUID.{EntityUID}
use Rattle.policy_values.specs.Uid.{text_cmp}
use Rattle.entity_store.specs.declared.request.Request.{Request}
use Rattle.entity_store.specs.Request.{action_of}
use Rattle.policy_set.specs.PolicySet.{IsPolicySet}
use Rattle.schema_core.specs.Faults.{IsSchema}
use Rattle.schema_core.specs.Schema.{ActionData, action_at}
use Rattle.table_loader.specs.Laws.{IsStoreOrdered}
use Rattle.principal_listing.specs.Allowed.{KeepOtherRules, is_allowed}
use Rattle.principal_listing.specs.Pages.{comes_after}
use Rattle.principal_listing.specs.declared.candidates.Listing.{Listing}

-- whether an action, where it is declared, applies to principals of the type
abbrev pub takes : Option ActionData → List ℕ → Bool
takes a n = option_map_or (λ a. has text_cmp a.principals n) a false

-- whether an id comes after another, if there is one, and is of a type to which the action applies
abbrev pub is_candidate : Option ActionData → Option EntityUID → EntityUID → Bool
is_candidate a x u = comes_after x u && takes a u.entity_type

-- whether an id comes after another, if there is one, and its principal is allowed
abbrev pub is_listed_after : Listing → Request → Option EntityUID → EntityUID → Bool
is_listed_after l q x u =
    comes_after x u && is_allowed l.schema.now l.policies.now.policies q l.entities.now u

-- every rule holds that does not speak of the principal, and all is in order
pub record IsListingReady (l : Listing) (q : Request) : Type 0 where
  pub rules : KeepOtherRules l.schema.now l.policies.now q l.entities.now
  pub action : option_copied l.action ≡ action_at l.schema.now (action_of q)
  pub schema : IsSchema l.schema.now
  pub set : IsPolicySet l.policies.now
  pub store : IsStoreOrdered l.entities.now
