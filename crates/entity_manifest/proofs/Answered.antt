-- What loading promises of its result makes the answer to a request.
use Rattle.std.proofs.Common.{◌≡◌, Result, Ok, Err, sym, ap, subst}
use Rattle.std.specs.Prelude.{◌≢◌, IfErr, IfOk}
use Rattle.entity_store.specs.declared.request.Request.{Request}
use Rattle.entity_store.specs.Request.{IsWhole}
use Rattle.entity_store.specs.Store.{Store}
use Rattle.policy_set.specs.PolicySet.{PolicySetData}
use Rattle.schema_core.specs.Schema.{SchemaData}
use Rattle.typing_spec.specs.Conforms.{RequestConforms}
use Rattle.entity_loader.specs.State.{LoaderState}
use Rattle.entity_loading.specs.declared.error.EntitySliceError.{EntitySliceError}
use Rattle.entity_loading.specs.declared.error.EntitySliceError.TheVariants as error
use Rattle.entity_manifest.specs.Loaded.{AreDecidedAlike, OfKnownStores, WhyNotLoaded}
use Rattle.entity_manifest.specs.declared.answer.BatchAnswer.{BatchAnswer}
use Rattle.entity_manifest.specs.Answers.{IsLoaderAnswer}
use Rattle.entity_manifest.specs.BatchLoaded.{answer_of}

-- an answer that is this one, unless memory ran out
pub answer_is : {E N : Type 0} (P : BatchAnswer → Type 0) (a : BatchAnswer) (r : Result BatchAnswer E) →
    IfOk r (λ b. b ≡ a) → IfOk r (λ _. N → ⊥) → ((N → ⊥) → P a) → IfOk r P
answer_is P a (Ok b) is not_memory f = subst P (sym is) (f not_memory)
answer_is P a (Err e) is not_memory f = tt

pub answered : (schema : SchemaData) (policies : PolicySetData) (q : Request) → IsWhole q → RequestConforms schema q → (old new : LoaderState) →
    (result : Result Store EntitySliceError) →
    OfKnownStores schema policies.policies q old (λ w. IfOk result (λ s. AreDecidedAlike policies.policies q s w)) →
    IfErr result (λ e. e ≢ error.OutOfMemory → WhyNotLoaded schema policies.policies q old new e) → (result ≡ Err error.OutOfMemory → ⊥) →
    IsLoaderAnswer schema policies.policies old new q (answer_of policies.policies q result)
answered schema policies q whole conforms old new (Ok s) alike why not_memory = (whole, conforms, λ w known stored. (alike w known stored).response)
answered schema policies q whole conforms old new (Err e) alike why not_memory = (whole, conforms, why (λ h. not_memory (ap Err h)))
