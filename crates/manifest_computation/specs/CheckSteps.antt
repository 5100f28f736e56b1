-- What a check of one rule refuses.
use Rattle.std.specs.Prelude.{◌≡◌, ⊤, Option, Some}
use Rattle.policy_values.specs.declared.entity_uid.EntityUID.{EntityUID}
use Rattle.policy_set.specs.PolicySet.{PolicySetData}
use Rattle.schema_core.specs.Schema.{SchemaData}
use Rattle.conformance.specs.declared.request_error.RequestValidationError.{RequestValidationError}
use Rattle.conformance.specs.declared.store_rule.StoreRule.{StoreRule}
use Rattle.policy_validate.specs.Accepted.{findings_of, IsAccepted}
use Rattle.manifest_computation.specs.declared.slice_error.SliceForRequestError.{SliceForRequestError}
use Rattle.manifest_computation.specs.declared.slice_error.SliceForRequestError.TheVariants as no_slice

-- of the request, of which this is the first rule that it breaks
abbrev pub IsRequestRefusal : Option RequestValidationError → SliceForRequestError → Type 0
IsRequestRefusal fault (no_slice.Request e) = fault ≡ Some e
IsRequestRefusal fault no_slice.OutOfMemory = ⊤
IsRequestRefusal fault e = ⊥

-- of the store
abbrev pub IsStoreRefusal : Option (EntityUID × StoreRule) → SliceForRequestError → Type 0
IsStoreRefusal fault (no_slice.EntityDoesNotConform e) = fault ≡ Some (e.uid, e.rule)
IsStoreRefusal fault no_slice.OutOfMemory = ⊤
IsStoreRefusal fault e = ⊥

-- of the policies
abbrev pub IsPoliciesRefusal : SchemaData → PolicySetData → SliceForRequestError → Type 0
IsPoliciesRefusal schema set (no_slice.Validation found) =
    (found ≡ findings_of schema set) × (¬ IsAccepted schema set)
IsPoliciesRefusal schema set no_slice.OutOfMemory = ⊤
IsPoliciesRefusal schema set e = ⊥
