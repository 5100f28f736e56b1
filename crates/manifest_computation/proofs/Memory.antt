-- Where every rule holds, nothing but lack of memory is a reason for no slice.
use Rattle.std.proofs.Common.{◌≡◌, None, Some, sym, ◌∙◌, refl}
use Rattle.entity_store.specs.declared.request.Request.{Request}
use Rattle.entity_store.specs.Store.{Store}
use Rattle.conformance.specs.Laws.{RequestRulesAreExact, StoreRulesAreExact}
use Rattle.policy_set.specs.PolicySet.{PolicySetData}
use Rattle.schema_core.specs.Faults.{IsSchema}
use Rattle.schema_core.specs.Schema.{SchemaData}
use Rattle.manifest_computation.specs.Refused.{WhyNoSlice}
use Rattle.manifest_computation.specs.Rules.{KeepRules}
use Rattle.manifest_computation.specs.declared.slice_error.SliceForRequestError.{SliceForRequestError}
use Rattle.manifest_computation.specs.declared.slice_error.SliceForRequestError.TheVariants as no_slice

no_some : {X : Type 0} {x : X} → None ≡ Some x → ⊥
no_some h = absurd (cc)

pub memory_alone : RequestRulesAreExact → StoreRulesAreExact → (schema : SchemaData) → IsSchema schema → (policies : PolicySetData) (q : Request) (s : Store) →
    KeepRules schema policies q s → (e : SliceForRequestError) → WhyNoSlice schema policies q s e → e ≡ no_slice.OutOfMemory
memory_alone requests stores schema ok policies q s keep no_slice.PartialRequest why = absurd (why keep.whole)
memory_alone requests stores schema ok policies q s keep (no_slice.Request e) why = absurd (no_some (sym ((requests schema ok q keep.whole).1 keep.request) ∙ why.1))
memory_alone requests stores schema ok policies q s keep (no_slice.EntityDoesNotConform e) why = absurd (no_some (sym ((stores schema ok s).1 keep.store) ∙ why.2))
memory_alone requests stores schema ok policies q s keep (no_slice.Validation found) why = absurd (why.4 keep.policies)
memory_alone requests stores schema ok policies q s keep no_slice.OutOfMemory why = refl
