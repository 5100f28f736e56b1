-- Why there is no slice.
use Rattle.std.specs.Prelude.{◌≡◌, ⊤, true, Some}
use Rattle.entity_store.specs.declared.request.Request.{Request}
use Rattle.entity_store.specs.Request.{IsWhole}
use Rattle.entity_store.specs.Store.{Store}
use Rattle.policy_set.specs.PolicySet.{PolicySetData}
use Rattle.schema_core.specs.Schema.{SchemaData}
use Rattle.conformance.specs.RequestRules.{first_request_fault}
use Rattle.conformance.specs.StoreRules.{first_store_fault}
use Rattle.typing_spec.specs.Conforms.{RequestConforms, StoreConforms}
use Rattle.policy_validate.specs.Accepted.{findings_of, IsAccepted}
use Rattle.manifest_computation.specs.declared.slice_error.SliceForRequestError.{SliceForRequestError}
use Rattle.manifest_computation.specs.declared.slice_error.SliceForRequestError.TheVariants as no_slice

-- the first rule that does not hold, in this order: the request is whole, it conforms, the store conforms,
-- the policies are accepted; or there was no memory
abbrev pub WhyNoSlice : SchemaData → PolicySetData → Request → Store → SliceForRequestError → Type 0
WhyNoSlice schema policies q s no_slice.PartialRequest = ¬ IsWhole q
WhyNoSlice schema policies q s (no_slice.Request e) =
    IsWhole q × (first_request_fault schema (λ _. true) q ≡ Some e)
WhyNoSlice schema policies q s (no_slice.EntityDoesNotConform e) =
    IsWhole q × RequestConforms schema q × (first_store_fault schema s ≡ Some (e.uid, e.rule))
WhyNoSlice schema policies q s (no_slice.Validation found) = IsWhole q × RequestConforms schema q
    × StoreConforms schema s × (found ≡ findings_of schema policies) × (¬ IsAccepted schema policies)
WhyNoSlice schema policies q s no_slice.OutOfMemory = ⊤
