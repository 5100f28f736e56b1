-- What a check of one rule refuses.
use Rattle.std.specs.Prelude.{◌≡◌, ⊤, Option, Some}
use Rattle.policy_values.specs.declared.entity_uid.EntityUID.{EntityUID}
use Rattle.policy_set.specs.PolicySet.{PolicySetData}
use Rattle.schema_core.specs.Schema.{SchemaData}
use Rattle.conformance.specs.declared.request_error.RequestValidationError.{RequestValidationError}
use Rattle.conformance.specs.declared.store_rule.StoreRule.{StoreRule}
use Rattle.entity_manifest.specs.Accepted.{findings_of, IsAccepted}
use Rattle.principal_listing.specs.declared.error.ListError.{ListError}
use Rattle.principal_listing.specs.declared.error.ListError.TheVariants as error

-- of the request, of which this is the first rule that it breaks
abbrev pub IsRequestRefusal : Option RequestValidationError → ListError → Type 0
IsRequestRefusal fault (error.Request e) = fault ≡ Some e
IsRequestRefusal fault error.OutOfMemory = ⊤
IsRequestRefusal fault e = ⊥

-- of the store
abbrev pub IsStoreRefusal : Option (EntityUID × StoreRule) → ListError → Type 0
IsStoreRefusal fault (error.EntityDoesNotConform e) = fault ≡ Some (e.uid, e.rule)
IsStoreRefusal fault error.OutOfMemory = ⊤
IsStoreRefusal fault e = ⊥

-- of the policies
abbrev pub IsPoliciesRefusal : SchemaData → PolicySetData → ListError → Type 0
IsPoliciesRefusal schema set (error.Validation found) =
    (found ≡ findings_of schema set) × (¬ IsAccepted schema set)
IsPoliciesRefusal schema set error.OutOfMemory = ⊤
IsPoliciesRefusal schema set e = ⊥
