-- Loading by computed manifests.
use Rattle.std.specs.Prelude.{◌≡◌, true, false, List, Some, None}
use Rattle.byte_streams.specs.Steps.{Rose}
use Rattle.entity_store.specs.declared.request.Request.{Request}
use Rattle.entity_store.specs.Store.{Store}
use Rattle.policy_values.specs.Value.{Val}
use Rattle.access_tries.specs.Paths.{IsLeast}
use Rattle.access_tries.specs.Table.{Table}
use Rattle.schema_core.specs.EnvData.{EnvData}
use Rattle.schema_core.specs.Faults.{IsSchema}
use Rattle.schema_core.specs.Schema.{SchemaData}
use Rattle.policy_set.specs.Data.{PolicyData}
use Rattle.typing_spec.specs.Conforms.{RequestConforms}
use Rattle.reads_spec.specs.Reads.{declared_reads, declared_demands}
use Rattle.manifest_computation.specs.Typed.{typed_conditions}
use Rattle.entity_loader.specs.State.{LoaderState}
use Rattle.entity_loading.specs.Causes.{IsRight}
use Rattle.entity_loading.specs.Right.{BlocksAt}
use Rattle.entity_loading.specs.declared.error.EntitySliceError.{EntitySliceError}
use Rattle.entity_loading.specs.declared.error.EntitySliceError.TheVariants.{OutOfMemory}
use Rattle.entity_loading.specs.Blocked.{IsBlocked}
use Rattle.manifest_core.specs.Manifest.{Manifest, trie_for}
use Rattle.manifest_core.specs.Same.{same_manifests}
use Rattle.manifest_computation.specs.Computed.{IsManifestOf}
use Rattle.manifest_computation.specs.Rules.{ReachedConform}
use Rattle.entity_manifest.specs.DeclaredPaths.{IsDeclaredTrie}

-- the trie of exactly what typed conditions read and ask for has declared paths alone, and asks only ids for
-- ancestors
abbrev pub ComputedTriesAreDeclared : Type 0
ComputedTriesAreDeclared =
    (schema : SchemaData) (env : EnvData) (ps : List PolicyData) (t : Table) →
    IsLeast (declared_reads schema env (typed_conditions schema env ps))
    (declared_demands schema env (typed_conditions schema env ps)) t → IsDeclaredTrie schema env t

-- where the request conforms, and each entity that the policies reach on it, the trie that their manifest has
-- for the request blocks at no value
abbrev pub ComputedManifestsFit : Type 0
ComputedManifestsFit =
    (schema : SchemaData) → IsSchema schema → (ps : List PolicyData) (m : Manifest) →
    IsManifestOf schema ps m →
    (q : Request) → RequestConforms schema q → (s : Store) → ReachedConform schema ps q s → (t : Table) →
    trie_for m q ≡ Some t → (v : Val) → ¬ BlocksAt t q s v

-- a refusal as loading by the manifest promises it of an honest loader of the store
pub record IsRightRefusal (m : Manifest) (q : Request) (s : Store)
    (old new : LoaderState) (e : EntitySliceError) : Type 0 where
  pub without : trie_for m q ≡ None → e ≡ OutOfMemory
  pub right : (t : Table) → trie_for m q ≡ Some t → IsRight (BlocksAt t q s) old new e

-- there an honest loader whose count of faults did not rise is refused only where memory runs out
abbrev pub HonestLoadingSucceeds : Type 0
HonestLoadingSucceeds =
    (schema : SchemaData) → IsSchema schema → (ps : List PolicyData) (m : Manifest) →
    IsManifestOf schema ps m →
    (q : Request) → RequestConforms schema q → (s : Store) → ReachedConform schema ps q s →
    (old new : LoaderState) → ¬ Rose old.faults new.faults → (e : EntitySliceError) →
    IsRightRefusal m q s old new e → e ≡ OutOfMemory

-- there no path of the trie is blocked in the store, so slicing along it does not refuse the trie
abbrev pub ComputedSlicesFit : Type 0
ComputedSlicesFit =
    (schema : SchemaData) → IsSchema schema → (ps : List PolicyData) (m : Manifest) →
    IsManifestOf schema ps m →
    (q : Request) → RequestConforms schema q → (s : Store) → ReachedConform schema ps q s → (t : Table) →
    trie_for m q ≡ Some t → (v : Val) → ¬ IsBlocked t q s v

-- manifests of the same policies are equal
abbrev pub PoliciesHaveOneManifest : Type 0
PoliciesHaveOneManifest =
    (schema : SchemaData) (ps : List PolicyData) (m n : Manifest) →
    IsManifestOf schema ps m → IsManifestOf schema ps n → same_manifests m n ≡ true

-- no manifest of the policies is equal to the given one
abbrev pub IsOfOthers : SchemaData → List PolicyData → Manifest → Type 0
IsOfOthers schema ps given = (m : Manifest) → IsManifestOf schema ps m → same_manifests m given ≡ false
