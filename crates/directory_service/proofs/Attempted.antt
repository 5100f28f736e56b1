-- What loading promises makes the attempt right.
use Rattle.std.proofs.Common.{◌≡◌, ◌∙◌, List, Result, Ok, Err, sym, subst}
use Rattle.std.specs.Prelude.{◌≢◌, IfErr, IfOk}
use Rattle.entity_store.specs.declared.request.Request.{Request}
use Rattle.entity_store.specs.Store.{Store}
use Rattle.policy_set.specs.Data.{PolicyData}
use Rattle.policy_set.specs.Response.{response}
use Rattle.policy_set.specs.PolicySet.{PolicySetData}
use Rattle.schema_core.specs.Schema.{SchemaData}
use Rattle.typing_spec.specs.Conforms.{StoreConforms}
use Rattle.entity_loader.specs.State.{LoaderState}
use Rattle.entity_manifest.specs.declared.EntitySliceError.{EntitySliceError}
use Rattle.entity_manifest.specs.declared.EntitySliceError.TheVariants as error
use Rattle.entity_manifest.specs.Loaded.{AreDecidedAlike, OfKnownStores, WhyNotLoaded, IsReported}
use Rattle.entity_manifest.proofs.Loaded.{conform_where_reached}
use Rattle.directory_service.specs.declared.attempt.Attempt.{Attempt}
use Rattle.directory_service.specs.declared.attempt.Attempt.TheVariants.{Decided, Missing, Refused}
use Rattle.directory_service.specs.Attempts.{IsAttempt, Becomes}

module _ (schema : SchemaData) (policies : PolicySetData) (q : Request) (old new : LoaderState) where
  pub attempted : (result : Result Store EntitySliceError) →
      OfKnownStores schema policies.policies q old (λ w. IfOk result (λ s. AreDecidedAlike policies.policies q s w)) →
      IfErr result (λ e. e ≢ error.OutOfMemory → WhyNotLoaded schema policies.policies q old new e) →
      (a : Attempt) → Becomes policies.policies q result a → (w : Store) → IsReported old w → StoreConforms schema w → IsAttempt policies.policies q w a
  attempted (Ok s) alike why a is w told stored = subst (IsAttempt policies.policies q w) (sym is) (alike w told (conform_where_reached schema policies.policies q w stored)).response
  attempted (Err error.LoaderFault) alike why a is w told stored = subst (IsAttempt policies.policies q w) (sym is.1) tt
  attempted (Err error.OutOfMemory) alike why a is w told stored = absurd is
  attempted (Err (error.IncompatibleEntityManifest e)) alike why a is w told stored = absurd (why (λ h. cc) w told (conform_where_reached schema policies.policies q w stored))
  attempted (Err (error.InconsistentLoader uid kept got)) alike why a is w told stored = absurd (why (λ h. cc) w told)
  attempted (Err (error.WrongNumberOfEntities e)) alike why a is w told stored = absurd ((why (λ h. cc)).1 w told)
  attempted (Err (error.WrongNumberOfAncestors n k)) alike why a is w told stored = absurd ((why (λ h. cc)).1 w told)
  attempted (Err (error.PartialRequest e)) alike why a is w told stored = absurd (why (λ h. cc))

  pub attempted_if : {E : Type 0} (result : Result Store EntitySliceError) →
      OfKnownStores schema policies.policies q old (λ w. IfOk result (λ s. AreDecidedAlike policies.policies q s w)) →
      IfErr result (λ e. e ≢ error.OutOfMemory → WhyNotLoaded schema policies.policies q old new e) →
      (r : Result Attempt E) → IfOk r (Becomes policies.policies q result) → (w : Store) → IsReported old w → StoreConforms schema w →
      IfOk r (IsAttempt policies.policies q w)
  attempted_if result alike why (Ok a) is w told stored = attempted result alike why a is w told stored
  attempted_if result alike why (Err e) is w told stored = tt

no_fault : (ps : List PolicyData) (q : Request) (result : Result Store EntitySliceError) (a : Attempt) → Becomes ps q result a → a ≢ Refused error.LoaderFault
no_fault ps q (Ok s) a is h = let clash : Decided (response ps q s) ≡ Refused error.LoaderFault = sym is ∙ h in absurd (cc)
no_fault ps q (Err error.LoaderFault) a is h = let clash : Missing is.0 ≡ Refused error.LoaderFault = sym is.1 ∙ h in absurd (cc)
no_fault ps q (Err error.OutOfMemory) a is h = absurd is
no_fault ps q (Err (error.IncompatibleEntityManifest e)) a is h = let clash : Refused (error.IncompatibleEntityManifest e) ≡ Refused error.LoaderFault = sym is ∙ h in absurd (cc)
no_fault ps q (Err (error.InconsistentLoader uid kept got)) a is h = let clash : Refused (error.InconsistentLoader uid kept got) ≡ Refused error.LoaderFault = sym is ∙ h in absurd (cc)
no_fault ps q (Err (error.WrongNumberOfEntities e)) a is h = let clash : Refused (error.WrongNumberOfEntities e) ≡ Refused error.LoaderFault = sym is ∙ h in absurd (cc)
no_fault ps q (Err (error.WrongNumberOfAncestors n k)) a is h = let clash : Refused (error.WrongNumberOfAncestors n k) ≡ Refused error.LoaderFault = sym is ∙ h in absurd (cc)
no_fault ps q (Err (error.PartialRequest e)) a is h = let clash : Refused (error.PartialRequest e) ≡ Refused error.LoaderFault = sym is ∙ h in absurd (cc)

pub no_fault_if : {E : Type 0} (ps : List PolicyData) (q : Request) (result : Result Store EntitySliceError) (r : Result Attempt E) → IfOk r (Becomes ps q result) → IfOk r (λ a. a ≢ Refused error.LoaderFault)
no_fault_if ps q result (Ok a) is = no_fault ps q result a is
no_fault_if ps q result (Err e) is = tt
