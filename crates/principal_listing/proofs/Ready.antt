-- What a test of a candidate says.
use Rattle.std.proofs.Common.{◌≡◌, ◌&&◌, Bool, true, false, Option, refl, subst}
use Rattle.policy_values.specs.declared.entity_uid.EntityUID.{EntityUID}
use Rattle.entity_store.specs.declared.request.Request.{Request}
use Rattle.entity_store.specs.Store.{Store}
use Rattle.policy_set.specs.PolicySet.{PolicySetData}
use Rattle.policy_set.specs.Response.{response}
use Rattle.schema_core.specs.Schema.{SchemaData}
use Rattle.std.specs.Option.{option_copied}
use Rattle.principal_listing.specs.Allowed.{asked_by, passed_over, applies_to, is_allow, is_allowed, KeepOtherRules}
use Rattle.principal_listing.specs.Pages.{comes_after}
use Rattle.principal_listing.specs.Ready.{IsListingReady, is_candidate}
use Rattle.principal_listing.specs.declared.candidates.Listing.{Listing}

-- the rules do not speak of the principal
pub others_alone : (schema : SchemaData) (set : PolicySetData) (q : Request) (s : Store) → KeepOtherRules schema set q s → KeepOtherRules schema set (passed_over q) s
others_alone schema set q s h = record {
  whole = record { action = h.whole.action; resource = h.whole.resource; context = h.whole.context };
  request = h.request;
  store = h.store;
  policies = h.policies;
}

no_and : (b a d : Bool) → (b && a) ≡ false → false ≡ (b && (a && d))
no_and true true d h = absurd (cc)
no_and true false d h = refl
no_and false a d h = refl

and_both : (b a d : Bool) → (b && a) ≡ true → d ≡ (b && (a && d))
and_both true true d h = refl
and_both true false d h = absurd (cc)
and_both false a d h = absurd (cc)

and_second : (b a : Bool) → (b && a) ≡ true → a ≡ true
and_second true a h = h
and_second false a h = absurd (cc)

module _ (l : Listing) (q : Request) (ready : IsListingReady l (passed_over q)) (x : Option EntityUID) (u : EntityUID) where
  abbrev pub allows : Bool
  allows = is_allow (response l.policies.now.policies (asked_by q u) l.entities.now).decision

  abbrev pub listed : Bool
  listed = comes_after x u && is_allowed l.schema.now l.policies.now.policies q l.entities.now u

  applies : (b : Bool) → is_candidate (option_copied l.action) x u ≡ b → (comes_after x u && applies_to l.schema.now q u.entity_type) ≡ b
  applies b h = subst (λ a. is_candidate a x u ≡ b) ready.action h

  pub no_candidate : is_candidate (option_copied l.action) x u ≡ false → false ≡ listed
  no_candidate h = no_and (comes_after x u) (applies_to l.schema.now q u.entity_type) allows (applies false h)

  pub a_candidate : is_candidate (option_copied l.action) x u ≡ true → allows ≡ listed
  a_candidate h = and_both (comes_after x u) (applies_to l.schema.now q u.entity_type) allows (applies true h)

  pub applies_there : is_candidate (option_copied l.action) x u ≡ true → applies_to l.schema.now q u.entity_type ≡ true
  applies_there h = and_second (comes_after x u) (applies_to l.schema.now q u.entity_type) (applies true h)
