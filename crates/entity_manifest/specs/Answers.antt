-- What is answered to many requests.
use Rattle.std.specs.Prelude.{◌≡◌, ◌+◌, ⊤, ℕ, true, List, [], ◌∷◌, Option, Some, None, IfSome}
use Rattle.entity_store.specs.declared.request.Request.{Request}
use Rattle.entity_store.specs.Request.{IsWhole}
use Rattle.entity_store.specs.Store.{Store}
use Rattle.policy_set.specs.Data.{PolicyData}
use Rattle.policy_set.specs.Response.{response}
use Rattle.schema_core.specs.Schema.{SchemaData}
use Rattle.typing_spec.specs.Conforms.{RequestConforms}
use Rattle.conformance.specs.RequestRules.{first_request_fault}
use Rattle.byte_streams.specs.Steps.{RoseBy}
use Rattle.entity_loader.specs.State.{LoaderState, Continues}
use Rattle.entity_loading.specs.declared.error.EntitySliceError.{EntitySliceError}
use Rattle.entity_loading.specs.declared.error.EntitySliceError.TheVariants as error
use Rattle.manifest_computation.specs.Rules.{ReachedConform}
use Rattle.entity_manifest.specs.Loaded.{OfKnownStores, WhyNotLoaded}
use Rattle.entity_manifest.specs.declared.answer.BatchAnswer.{BatchAnswer}
use Rattle.entity_manifest.specs.declared.answer.BatchAnswer.TheVariants.{Partial, Refused, Loading, Decided}

module _ (schema : SchemaData) (ps : List PolicyData) where
  -- the answer to a request, for which the loader goes from one state to another; where it says a store in
  -- which the entities conform that are reached, the decision is the response on that store
  abbrev pub IsLoaderAnswer : LoaderState → LoaderState → Request → BatchAnswer → Type 0
  IsLoaderAnswer old new q Partial = ¬ IsWhole q
  IsLoaderAnswer old new q (Refused e) = IsWhole q × (first_request_fault schema (λ _. true) q ≡ Some e)
  IsLoaderAnswer old new q (Loading e) =
      IsWhole q × RequestConforms schema q × WhyNotLoaded schema ps q old new e
  IsLoaderAnswer old new q (Decided r) =
      IsWhole q × RequestConforms schema q × OfKnownStores schema ps q old (λ w. r ≡ response ps q w)

  -- the answers to requests, one after another
  abbrev pub AreLoaderAnswers : LoaderState → List Request → List BatchAnswer → LoaderState → Type 0
  AreLoaderAnswers old [] [] new = old ≡ new
  AreLoaderAnswers old (q ∷ qs) (a ∷ answers) new =
      (mid : LoaderState) × Continues old mid × IsLoaderAnswer old mid q a
      × AreLoaderAnswers mid qs answers new
  AreLoaderAnswers old qs answers new = ⊥

  -- the answer to a request on a store: the response on it where the request is whole and conforms
  abbrev pub IsStoreAnswer : Store → Request → BatchAnswer → Type 0
  IsStoreAnswer w q Partial = ¬ IsWhole q
  IsStoreAnswer w q (Refused e) = IsWhole q × (first_request_fault schema (λ _. true) q ≡ Some e)
  IsStoreAnswer w q (Loading e) = ⊥
  IsStoreAnswer w q (Decided r) = IsWhole q × RequestConforms schema q × (r ≡ response ps q w)

  -- that answer, or for a whole request that conforms a fault of the loader
  abbrev pub IsAnswerOrFault : Store → Request → BatchAnswer → Type 0
  IsAnswerOrFault w q (Loading e) = IsWhole q × RequestConforms schema q × (e ≡ error.LoaderFault)
  IsAnswerOrFault w q a = IsStoreAnswer w q a

  -- why rows that say this store, or none, do not give what a request reads: they failed, an entity that is
  -- reached does not conform, or there is no store and answers do not agree
  abbrev pub WhyNotGiven : Option Store → Request → EntitySliceError → Type 0
  WhyNotGiven known q error.LoaderFault = ⊤
  WhyNotGiven known q (error.IncompatibleEntityManifest e) = IfSome known (λ w. ¬ ReachedConform schema ps q w)
  WhyNotGiven known q (error.InconsistentLoader uid kept got) = known ≡ None
  WhyNotGiven known q e = ⊥

  -- the answer to a request by rows that say this store, or none; where the entities conform that are reached,
  -- a decision is the response on the store
  abbrev pub IsRowAnswer : Option Store → Request → BatchAnswer → Type 0
  IsRowAnswer known q Partial = ¬ IsWhole q
  IsRowAnswer known q (Refused e) = IsWhole q × (first_request_fault schema (λ _. true) q ≡ Some e)
  IsRowAnswer known q (Loading e) = IsWhole q × RequestConforms schema q × WhyNotGiven known q e
  IsRowAnswer known q (Decided r) =
      IsWhole q × RequestConforms schema q ×
      IfSome known (λ w. ReachedConform schema ps q w → r ≡ response ps q w)

-- how many answers are faults of the loader
abbrev pub is_fault : BatchAnswer → ℕ
is_fault (Loading error.LoaderFault) = 1
is_fault a = 0

abbrev pub faults_in : List BatchAnswer → ℕ
faults_in [] = 0
faults_in (a ∷ answers) = is_fault a + faults_in answers

-- at most as many as a count of faults rose by, which is below the last value of u64
abbrev pub AreCounted : List BatchAnswer → ℕ → ℕ → Type 0
AreCounted answers old new = RoseBy (faults_in answers) old new
