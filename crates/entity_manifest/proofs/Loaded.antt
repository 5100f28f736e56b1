-- Deciding on what is loaded is deciding on the whole store.
use Rattle.std.proofs.Common.{◌≡◌, ◌⊎◌, Bool, true, false, List, [], ◌∷◌, cond, Option, Some, None, refl, sym, ap, ◌∙◌, subst, inl, inr}
use Rattle.std.specs.BTreeMap.{is_at}
use Rattle.std.specs.List.{AllZip}
use Rattle.std.specs.Map.{lookup}
use Rattle.std.specs.Cmp.{tied_itself}
use Rattle.std.specs.Option.{option_and_then}
use Rattle.std.proofs.lemmas.Cmp.{nat_list_cmp_total}
use Rattle.plain_lemmas.proofs.Options.{some_injective}
use Rattle.policy_values.specs.Uid.{uid_cmp_total}
use Rattle.policy_values.specs.Value.{Val}
use Rattle.entity_store.specs.declared.request.Request.{Request}
use Rattle.entity_store.specs.declared.request.RequestType.{RequestType}
use Rattle.entity_store.specs.Request.{request_type_cmp}
use Rattle.entity_store.specs.Store.{Store}
use Rattle.access_tries.specs.Table.{Table}
use Rattle.policy_set.specs.Response.{outcomes}
use Rattle.policy_set.specs.Data.{PolicyData}
use Rattle.policy_set.specs.PolicySet.{PolicySetData}
use Rattle.schema_core.specs.EnvData.{EnvData, request_type_in, unlinked_envs}
use Rattle.schema_core.specs.Faults.{IsSchema}
use Rattle.schema_core.specs.Schema.{SchemaData}
use Rattle.reads_spec.specs.Cover.{IsPartOf}
use Rattle.reads_spec.specs.Reads.{declared_reads, declared_demands}
use Rattle.reads_spec.specs.Restrict.{restrict}
use Rattle.reads_spec.proofs.Lists.{IsIn}
use Rattle.manifest_computation.specs.Typed.{typed_conditions}
use Rattle.entity_loading.proofs.LeastSteps.{declared_trie}
use Rattle.entity_loader.specs.State.{LoaderState}
use Rattle.entity_loading.specs.Causes.{IsRight}
use Rattle.entity_loading.specs.Right.{BlocksAt}
use Rattle.entity_loading.specs.declared.error.EntitySliceError.{EntitySliceError}
use Rattle.entity_loading.specs.declared.error.EntitySliceError.TheVariants as error
use Rattle.manifest_core.specs.Manifest.{Manifest, trie_for}
use Rattle.manifest_computation.specs.Computed.{IsEntryOf, IsManifestOf}
use Rattle.entity_manifest.specs.Computed.{ComputedManifestsFit}
use Rattle.manifest_computation.specs.Enough.{SlicesAreEnough, IsEnough}
use Rattle.manifest_computation.specs.Laws.{IsTrieFor}
use Rattle.manifest_computation.specs.Rules.{KeepReachedRules}
use Rattle.manifest_computation.specs.Slice.{slice, slice_in}
use Rattle.manifest_computation.proofs.Same.{response_same}
pub use Rattle.manifest_computation.proofs.Covering.{conform_where_reached}
use Rattle.manifest_computation.proofs.Environments.{are_there}
use Rattle.manifest_computation.proofs.RequestTries.{tries_of_reads}
use Rattle.entity_manifest.specs.Loaded.{TriesAreThere, LoadedIsEnough, IsLoadedBy, AreDecidedAlike, IsFaultOrMemory, RefusalsAreFaults}

-- ---- entries of a manifest

module _ (d : SchemaData) (ps : List PolicyData) where
  abbrev Entries : List EnvData → Manifest → Type 0
  Entries envs m = AllZip (λ env e. IsEntryOf d env (typed_conditions d env ps) e) envs m

  -- an environment has an entry
  entry_there : (envs : List EnvData) (m : Manifest) → Entries envs m → (env : EnvData) → IsIn env envs → (rt : RequestType) → request_type_in env ≡ Some rt → lookup (is_at (request_type_cmp rt)) m ≡ None → ⊥
  entry_there [] m z env i rt typed none = i
  entry_there (f ∷ envs) [] z env i rt typed none = z
  entry_there (f ∷ envs) (e ∷ m) z env i rt typed none = by (is_at (request_type_cmp rt) e.0) refl none (entry_there envs m z.1 env) i
    where
      itself : is_at (request_type_cmp rt) rt ≡ true
      itself = rw (tied_itself uid_cmp_total rt.action, tied_itself nat_list_cmp_total rt.principal, tied_itself nat_list_cmp_total rt.resource) refl

      by : (b : Bool) → is_at (request_type_cmp rt) e.0 ≡ b → cond b (Some e.1) (lookup (is_at (request_type_cmp rt)) m) ≡ None → (IsIn env envs → (rt : RequestType) → request_type_in env ≡ Some rt → lookup (is_at (request_type_cmp rt)) m ≡ None → ⊥) → (f ≡ env) ⊎ IsIn env envs → ⊥
      by true at k rest j = absurd (cc)
      by false at k rest (inl same) =
          let is : e.0 ≡ rt = some_injective (sym z.0.request_type ∙ ap request_type_in same ∙ typed) in
          no_both (subst (λ x. is_at (request_type_cmp rt) x ≡ true) (sym is) itself) at
        where
          no_both : {b : Bool} → b ≡ true → b ≡ false → ⊥
          no_both k l = absurd (cc (k, l))
      by false at k rest (inr j) = rest j rt typed k

pub tries_there : TriesAreThere
tries_there d [] m is q whole conforms none = refl
tries_there d (p ∷ ps) m is q whole conforms none =
    let e = are_there d q whole conforms in
    absurd (entry_there d (p ∷ ps) (unlinked_envs d) m is e.env e.among e.type e.in_env (sym (ap (option_and_then (λ rt. lookup (is_at (request_type_cmp rt)) m)) e.of_request) ∙ none))

-- ---- what is loaded is enough

module _ (d : SchemaData) (valid : IsSchema d) (policies : PolicySetData) (m : Manifest) (computed : IsManifestOf d policies.policies m) (q : Request) (whole : Store) (rules : KeepReachedRules d policies q whole) (exact : Bool) (s : Store) (loaded : IsLoadedBy exact m q whole s)
    (enough : IsEnough policies.policies q (slice d policies.policies q whole) whole) where
  alike : outcomes policies.policies q s ≡ outcomes policies.policies q whole → AreDecidedAlike policies.policies q s whole
  alike same = record { outcomes = same; response = response_same policies.policies q s whole same }

  with_trie : (t : Table) → trie_for m q ≡ Some t → IsTrieFor d policies.policies q t → outcomes policies.policies q s ≡ outcomes policies.policies q whole
  with_trie t at is =
      let ts = typed_conditions d is.env policies.policies in
      let between = loaded t at (declared_reads d is.env ts) (declared_demands d is.env ts) (declared_trie d is.env ts t is.trie) in
      let same : restrict (declared_reads d is.env ts) (declared_demands d is.env ts) q whole ≡ slice d policies.policies q whole = sym (ap (slice_in d policies.policies q whole) is.is) in
      enough.covers s (subst (λ r. IsPartOf r s) same between.enough) between.part

  without : policies.policies ≡ [] → outcomes policies.policies q s ≡ outcomes policies.policies q whole
  without none = ap (λ ps. outcomes ps q s) none ∙ sym (ap (λ ps. outcomes ps q whole) none)

  decided : AreDecidedAlike policies.policies q s whole
  decided = by (trie_for m q) refl
    where
      by : (o : Option Table) → trie_for m q ≡ o → AreDecidedAlike policies.policies q s whole
      by None e = alike (without (tries_there d policies.policies m computed q rules.whole rules.request e))
      by (Some t) e = alike (with_trie t e (tries_of_reads d valid policies.policies m computed q t e))

pub loaded_enough : SlicesAreEnough → LoadedIsEnough
loaded_enough slices d valid policies set once m computed q whole rules exact s loaded =
    decided d valid policies m computed q whole rules exact s loaded (slices d valid policies set once q whole rules)

-- ---- refusals

faults_alone : (P : Val → Type 0) → ((v : Val) → ¬ P v) → (old new : LoaderState) (e : EntitySliceError) → IsRight P old new e → IsFaultOrMemory old new e
faults_alone P none old new (error.PartialRequest e) h = absurd h
faults_alone P none old new (error.IncompatibleEntityManifest e) h = absurd (none e.value h)
faults_alone P none old new (error.WrongNumberOfEntities e) h = absurd h
faults_alone P none old new (error.WrongNumberOfAncestors expected got) h = absurd h
faults_alone P none old new (error.InconsistentLoader uid kept got) h = absurd h
faults_alone P none old new error.LoaderFault h = inl (refl, h)
faults_alone P none old new error.OutOfMemory h = inr refl

pub refused : ComputedManifestsFit → RefusalsAreFaults
refused fit schema valid ps m is q request s store old new e h = by (trie_for m q) refl
  where
    by : (o : Option Table) → trie_for m q ≡ o → IsFaultOrMemory old new e
    by None i = inr (h.without i)
    by (Some t) i = faults_alone (BlocksAt t q s) (fit schema valid ps m is q request s store t i) old new e (h.right t i)
