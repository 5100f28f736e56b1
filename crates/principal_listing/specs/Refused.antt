-- Why there is no page.
use Rattle.std.specs.Prelude.{◌≡◌, ⊤, true, Some, None}
use Rattle.entity_store.specs.declared.request.Request.{Request}
use Rattle.entity_store.specs.Store.{Store}
use Rattle.policy_set.specs.PolicySet.{PolicySetData}
use Rattle.schema_core.specs.Schema.{SchemaData}
use Rattle.conformance.specs.RequestRules.{first_request_fault}
use Rattle.conformance.specs.StoreRules.{first_store_fault}
use Rattle.typing_spec.specs.Conforms.{StoreConforms}
use Rattle.entity_manifest.specs.Accepted.{findings_of, IsAccepted}
use Rattle.principal_listing.specs.Allowed.{IsWholeBut, passed_over}
use Rattle.principal_listing.specs.declared.error.ListError.{ListError}
use Rattle.principal_listing.specs.declared.error.ListError.TheVariants as error

module _ (schema : SchemaData) (set : PolicySetData) (q : Request) (s : Store) where
  -- the first rule that does not hold, in this order: the entries but for the principal are there; they break
  -- no rule of requests; the store conforms; the policies are accepted. Or there was no memory
  abbrev pub WhyNoPage : ListError → Type 0
  WhyNoPage error.PartialRequest = ¬ IsWholeBut q
  WhyNoPage (error.Request e) =
      IsWholeBut q × (first_request_fault schema (λ _. true) (passed_over q) ≡ Some e)
  WhyNoPage (error.EntityDoesNotConform e) =
      IsWholeBut q × (first_request_fault schema (λ _. true) (passed_over q) ≡ None)
      × (first_store_fault schema s ≡ Some (e.uid, e.rule))
  WhyNoPage (error.Validation found) =
      IsWholeBut q × (first_request_fault schema (λ _. true) (passed_over q) ≡ None)
      × StoreConforms schema s ×
      (found ≡ findings_of schema set) × (¬ IsAccepted schema set)
  WhyNoPage error.OutOfMemory = ⊤
