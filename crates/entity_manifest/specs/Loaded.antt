-- What is loaded for a request by a computed manifest.
use Rattle.std.specs.Prelude.{◌≡◌, ◌⊎◌, Bool, List, [], Some, None}
use Rattle.byte_streams.specs.Steps.{Rose}
use Rattle.entity_store.specs.declared.request.Request.{Request}
use Rattle.entity_store.specs.Request.{IsWhole}
use Rattle.entity_store.specs.Store.{Store}
use Rattle.access_tries.specs.Table.{Table}
use Rattle.policy_set.specs.Data.{PolicyData}
use Rattle.policy_set.specs.PolicySet.{PolicySetData, IsPolicySet, AreKeyedOnce}
use Rattle.schema_core.specs.Faults.{IsSchema}
use Rattle.schema_core.specs.Schema.{SchemaData}
use Rattle.typing_spec.specs.Conforms.{RequestConforms}
use Rattle.reads_spec.specs.Paths.{AccessPath, Demand}
use Rattle.entity_loading.specs.Tries.{IsTrieOf}
use Rattle.entity_loader.specs.State.{LoaderState}
use Rattle.entity_loading.specs.Between.{IsBetween}
use Rattle.entity_loading.specs.declared.error.EntitySliceError.{EntitySliceError}
use Rattle.entity_loading.specs.declared.error.EntitySliceError.TheVariants as error
use Rattle.manifest_core.specs.Manifest.{Manifest, trie_for}
pub use Rattle.manifest_computation.specs.Enough.{AreDecidedAlike}
use Rattle.manifest_computation.specs.Computed.{IsManifestOf}
use Rattle.entity_manifest.specs.Computed.{IsRightRefusal}
use Rattle.manifest_computation.specs.Rules.{ReachedConform, KeepReachedRules}
use Rattle.table_loader.specs.Laws.{IsStoreOrdered}

-- a computed manifest has a trie for each whole request that conforms, unless there are no policies
abbrev pub TriesAreThere : Type 0
TriesAreThere =
    (schema : SchemaData) (ps : List PolicyData) (m : Manifest) → IsManifestOf schema ps m →
    (q : Request) → IsWhole q → RequestConforms schema q → trie_for m q ≡ None → ps ≡ []

-- what loading by the manifest, and slicing by it, promise: where it has a trie for the request, the store
-- lies between what the trie reads of the whole one and the whole one, whatever paths and demands the trie is
-- said to be of
abbrev pub IsLoadedBy : Bool → Manifest → Request → Store → Store → Type 0
IsLoadedBy exact m q whole s =
    (t : Table) → trie_for m q ≡ Some t → (reads : List AccessPath) (demands : List Demand) →
    IsTrieOf reads demands t → IsBetween exact reads demands q whole s

-- on what is loaded by the manifest of accepted policies each policy has the outcome that it has on the whole
-- store
abbrev pub LoadedIsEnough : Type 0
LoadedIsEnough =
    (schema : SchemaData) → IsSchema schema → (policies : PolicySetData) → IsPolicySet policies →
    AreKeyedOnce policies.policies →
    (m : Manifest) → IsManifestOf schema policies.policies m →
    (q : Request) (whole : Store) → KeepReachedRules schema policies q whole →
    (exact : Bool) (s : Store) → IsLoadedBy exact m q whole s → AreDecidedAlike policies.policies q s whole

-- nothing is loaded, for a call that failed and was counted or for lack of memory
abbrev pub IsFaultOrMemory : LoaderState → LoaderState → EntitySliceError → Type 0
IsFaultOrMemory old new e = ((e ≡ error.LoaderFault) × Rose old.faults new.faults) ⊎ (e ≡ error.OutOfMemory)

-- with such a manifest an honest loader of a store that conforms where it is reached is refused, on a request
-- that conforms, for a fault that rose or for lack of memory
abbrev pub RefusalsAreFaults : Type 0
RefusalsAreFaults =
    (schema : SchemaData) → IsSchema schema → (ps : List PolicyData) (m : Manifest) →
    IsManifestOf schema ps m →
    (q : Request) → RequestConforms schema q → (s : Store) → ReachedConform schema ps q s →
    (old new : LoaderState) (e : EntitySliceError) → IsRightRefusal m q s old new e →
    IsFaultOrMemory old new e

-- a store in order that a loader says
pub record IsReported (l : LoaderState) (w : Store) : Type 0 where
  pub known : l.store ≡ Some w
  pub order : IsStoreOrdered w

module _ (schema : SchemaData) (ps : List PolicyData) (q : Request) where
  -- it holds of each store in order that the loader says, where the entities conform that the policies reach
  -- on the request
  abbrev pub OfKnownStores : LoaderState → (Store → Type 0) → Type 0
  OfKnownStores l P = (w : Store) → IsReported l w → ReachedConform schema ps q w → P w

  -- why a loader that goes from one state to another does not give what the request reads: it failed; an
  -- entity that is reached does not conform; or it does not say its store, and its answers do not agree or are
  -- not for what was asked
  abbrev pub WhyNotLoaded : LoaderState → LoaderState → EntitySliceError → Type 0
  WhyNotLoaded old new error.LoaderFault = Rose old.faults new.faults
  WhyNotLoaded old new (error.IncompatibleEntityManifest e) =
      (w : Store) → IsReported old w → ¬ ReachedConform schema ps q w
  WhyNotLoaded old new (error.InconsistentLoader uid kept got) = (w : Store) → ¬ IsReported old w
  WhyNotLoaded old new (error.WrongNumberOfEntities e) =
      Rose old.strays new.strays × ((w : Store) → ¬ IsReported old w)
  WhyNotLoaded old new (error.WrongNumberOfAncestors n m) =
      Rose old.strays new.strays × ((w : Store) → ¬ IsReported old w)
  WhyNotLoaded old new (error.PartialRequest e) = ⊥
  WhyNotLoaded old new error.OutOfMemory = ⊥
