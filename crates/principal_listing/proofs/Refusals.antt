-- Why there is no page, by what a check of one rule refuses.
use Rattle.std.proofs.Common.{◌≡◌, true, None}
use Rattle.entity_store.specs.declared.request.Request.{Request}
use Rattle.entity_store.specs.Store.{Store}
use Rattle.policy_set.specs.PolicySet.{PolicySetData}
use Rattle.schema_core.specs.Schema.{SchemaData}
use Rattle.conformance.specs.RequestRules.{first_request_fault}
use Rattle.typing_spec.specs.Conforms.{StoreConforms}
use Rattle.principal_listing.specs.Allowed.{IsWholeBut, passed_over}
use Rattle.principal_listing.specs.CheckSteps.{IsPoliciesRefusal}
use Rattle.principal_listing.specs.Refused.{WhyNoPage}
use Rattle.principal_listing.specs.declared.error.ListError.{ListError}
use Rattle.principal_listing.specs.declared.error.ListError.TheVariants as error

module _ (schema : SchemaData) (set : PolicySetData) (q : Request) (s : Store) (whole : IsWholeBut q)
    (request : first_request_fault schema (λ _. true) (passed_over q) ≡ None) (store : StoreConforms schema s) where
  -- for the policies, where the other rules hold
  pub policies_refused : (e : ListError) → IsPoliciesRefusal schema set e → WhyNoPage schema set q s e
  policies_refused error.PartialRequest h = absurd h
  policies_refused (error.Request e) h = absurd h
  policies_refused (error.EntityDoesNotConform e) h = absurd h
  policies_refused (error.Validation found) h = (whole, request, store, h.0, h.1)
  policies_refused error.OutOfMemory h = tt
