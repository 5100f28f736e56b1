-- Loading by computed manifests is refused for lack of memory, and for faults alone.
use Rattle.std.proofs.Common.{◌≡◌, List, Option, Some, None, refl}
use Rattle.byte_streams.specs.Steps.{Rose}
use Rattle.policy_values.specs.Value.{Val}
use Rattle.entity_store.specs.declared.request.Request.{Request}
use Rattle.entity_store.specs.Store.{Store}
use Rattle.access_tries.specs.Paths.{AccessPath}
use Rattle.access_tries.specs.Table.{Table}
use Rattle.schema_core.specs.EnvData.{LinkedEnvironment, declared_action}
use Rattle.schema_core.specs.Faults.{IsSchema}
use Rattle.schema_core.specs.Schema.{SchemaData}
use Rattle.typing_spec.specs.Conforms.{RequestConforms, StoreConforms, IsOf}
use Rattle.policy_set.specs.Data.{PolicyData}
use Rattle.reads_spec.specs.Paths.{Demand}
use Rattle.reads_spec.specs.Reached.{AreAlikeWhereReached}
use Rattle.reads_spec.specs.Reads.{declared_reads, declared_demands}
use Rattle.reads_spec.proofs.Reaching.{reached_parts}
use Rattle.entity_loader.specs.State.{LoaderState}
use Rattle.entity_loading.specs.Causes.{IsRight}
use Rattle.entity_loading.specs.Right.{BlocksAt}
use Rattle.entity_loading.specs.Tries.{IsTrieOf}
use Rattle.entity_loading.specs.declared.error.EntitySliceError.{EntitySliceError}
use Rattle.entity_loading.specs.declared.error.EntitySliceError.TheVariants as error
use Rattle.entity_loading.proofs.LeastSteps.{declared_trie}
use Rattle.manifest_core.specs.Manifest.{Manifest, trie_for}
use Rattle.manifest_computation.specs.Computed.{IsManifestOf}
use Rattle.manifest_computation.specs.Rules.{ReachedConform}
use Rattle.manifest_computation.specs.Typed.{typed_conditions}
use Rattle.manifest_computation.proofs.RequestTries.{trie_reached}
use Rattle.entity_manifest.specs.Computed.{ComputedManifestsFit, ComputedSlicesFit, HonestLoadingSucceeds}
use Rattle.entity_manifest.specs.DeclaredPaths.{IsDeclaredTrie}
use Rattle.entity_manifest.proofs.Conforming.{nothing_blocks, nothing_is_blocked}
use Rattle.entity_manifest.proofs.Manifests.{tries_declared}
use Rattle.entity_manifest.proofs.There.{blocks_there, blocked_there}

-- a store that conforms and is the same where the request reaches, with the trie there
record HasFitting (schema : SchemaData) (q : Request) (s : Store) (t : Table) : Type 0 where
  env : LinkedEnvironment
  of : IsOf schema q env
  declared : IsDeclaredTrie schema (declared_action env) t
  reads : List AccessPath
  demands : List Demand
  fits : IsTrieOf reads demands t
  store : Store
  conforms : StoreConforms schema store
  alike : AreAlikeWhereReached reads q s store

fitting : (schema : SchemaData) → IsSchema schema → (ps : List PolicyData) (m : Manifest) → IsManifestOf schema ps m →
    (q : Request) → RequestConforms schema q → (s : Store) → ReachedConform schema ps q s → (t : Table) → trie_for m q ≡ Some t → HasFitting schema q s t
fitting schema valid ps m is q request s reached t at =
    let c = trie_reached schema valid ps m is q request s reached t at in
    let ts = typed_conditions schema (declared_action c.env) ps in
    let there = reached_parts schema valid c.env q request c.of s ts c.reached in
    record {
      env = c.env;
      of = c.of;
      declared = tries_declared schema (declared_action c.env) ps t c.trie;
      reads = declared_reads schema (declared_action c.env) ts;
      demands = declared_demands schema (declared_action c.env) ts;
      fits = declared_trie schema (declared_action c.env) ts t c.trie;
      store = there.store;
      conforms = there.conforms;
      alike = there.alike;
    }

pub manifests_fit : ComputedManifestsFit
manifests_fit schema valid ps m is q request s reached t at v blocks =
    let f = fitting schema valid ps m is q request s reached t at in
    nothing_blocks schema valid f.env q request f.of f.store f.conforms t f.declared v (blocks_there f.reads f.demands t f.fits q s f.store f.alike v blocks)

memory_alone : (P : Val → Type 0) → ((v : Val) → ¬ P v) → (old new : LoaderState) → ¬ Rose old.faults new.faults → (e : EntitySliceError) → IsRight P old new e → e ≡ error.OutOfMemory
memory_alone P none old new quiet (error.PartialRequest e) h = absurd h
memory_alone P none old new quiet (error.IncompatibleEntityManifest e) h = absurd (none e.value h)
memory_alone P none old new quiet (error.WrongNumberOfEntities e) h = absurd h
memory_alone P none old new quiet (error.WrongNumberOfAncestors expected got) h = absurd h
memory_alone P none old new quiet (error.InconsistentLoader uid kept got) h = absurd h
memory_alone P none old new quiet error.LoaderFault h = absurd (quiet h)
memory_alone P none old new quiet error.OutOfMemory h = refl

pub honest_succeeds : HonestLoadingSucceeds
honest_succeeds schema valid ps m is q request s store old new quiet e h = by (trie_for m q) refl
  where
    by : (o : Option Table) → trie_for m q ≡ o → e ≡ error.OutOfMemory
    by None i = h.without i
    by (Some t) i = memory_alone (BlocksAt t q s) (manifests_fit schema valid ps m is q request s store t i) old new quiet e (h.right t i)

pub slices_fit : ComputedSlicesFit
slices_fit schema valid ps m is q request s reached t at v blocked =
    let f = fitting schema valid ps m is q request s reached t at in
    nothing_is_blocked schema valid f.env q request f.of f.store f.conforms t f.declared v (blocked_there f.reads f.demands t f.fits q s f.store f.alike v blocked)
