-- What loading by a computed manifest promises.
use Rattle.std.proofs.Common.{◌≡◌, Bool, true, List, [], ◌∷◌, Option, Some, None, Result, Ok, Err, refl, sym, ap, ◌∙◌, subst, inl, inr}
use Rattle.std.specs.Prelude.{◌≢◌, IfErr, IfOk, map}
use Rattle.std.specs.List.Sorted.{IsStrictlySortedBy}
use Rattle.policy_values.specs.Uid.{uid_cmp}
use Rattle.policy_values.specs.Value.{Val}
use Rattle.entity_store.specs.declared.request.Request.{Request}
use Rattle.entity_store.specs.Request.{IsWhole}
use Rattle.entity_store.specs.Store.{Store}
use Rattle.access_tries.specs.Table.{Table}
use Rattle.policy_set.specs.PolicySet.{PolicySetData, IsPolicySet, AreKeyedOnce}
use Rattle.schema_core.specs.Faults.{IsSchema}
use Rattle.schema_core.specs.Schema.{SchemaData}
use Rattle.typing_spec.specs.Conforms.{RequestConforms}
use Rattle.manifest_computation.specs.Accepted.{IsAccepted}
use Rattle.reads_spec.specs.Paths.{AccessPath, Demand}
use Rattle.reads_spec.specs.Cover.{IsPartOf}
use Rattle.reads_spec.specs.Reads.{declared_reads, declared_demands}
use Rattle.reads_spec.specs.Restrict.{part, needed, restrict}
use Rattle.manifest_computation.specs.Typed.{typed_conditions}
use Rattle.manifest_computation.specs.Slice.{env_of, slice, slice_in}
use Rattle.entity_loading.proofs.LeastSteps.{declared_trie}
use Rattle.schema_core.specs.EnvData.{EnvData}
use Rattle.entity_loading.specs.Tries.{IsTrieOf}
use Rattle.entity_loader.specs.State.{LoaderState}
use Rattle.entity_loading.specs.Between.{IsBetween}
use Rattle.entity_loading.specs.Ordered.{HasOrder}
use Rattle.entity_loading.specs.Causes.{CauseOf, IsRight}
use Rattle.entity_loading.specs.Right.{BlocksAt}
use Rattle.entity_loading.specs.declared.error.EntitySliceError.{EntitySliceError}
use Rattle.entity_loading.specs.declared.error.EntitySliceError.TheVariants as error
use Rattle.manifest_core.specs.Manifest.{Manifest, trie_for}
use Rattle.manifest_computation.specs.Computed.{IsManifestOf}
use Rattle.manifest_computation.specs.Rules.{ReachedConform}
use Rattle.manifest_computation.proofs.RequestTries.{tries_of_reads}
use Rattle.entity_manifest.specs.Loaded.{LoadedIsEnough, AreDecidedAlike, RefusalsAreFaults, IsFaultOrMemory, IsReported, OfKnownStores, WhyNotLoaded}
use Rattle.entity_manifest.proofs.Loaded.{tries_there}

-- what loading by the manifest for a whole request promises of its result
module _ (m : Manifest) (q : Request) (old new : LoaderState) (result : Result Store EntitySliceError) where
  pub record Loads (sticks : Table → Val → Type 0) : Type 0 where
    pub between : (t : Table) → trie_for m q ≡ Some t → (w : Store) → old.store ≡ Some w → HasOrder w → IsStrictlySortedBy uid_cmp (map (λ e. e.uid) w) →
        (reads : List AccessPath) (demands : List Demand) →
        IsTrieOf reads demands t → IfOk result (IsBetween old.exact reads demands q w)
    pub right : IsWhole q → (t : Table) → trie_for m q ≡ Some t → (w : Store) → old.store ≡ Some w → HasOrder w →
        IfErr result (IsRight (BlocksAt t q w) old new)
    pub cause : IsWhole q → (t : Table) → trie_for m q ≡ Some t → IfErr result (CauseOf (sticks t) old new)
    pub without : IsWhole q → trie_for m q ≡ None → IfErr result (λ e. e ≡ error.OutOfMemory)
    pub none : IsWhole q → trie_for m q ≡ None → IfOk result (λ s. s ≡ [])

-- nothing is kept along no paths
nothing_kept : (ds : List Demand) (q : Request) (w s : Store) → part (needed [] ds q w) s ≡ []
nothing_kept ds q w [] = refl
nothing_kept ds q w (e ∷ es) = nothing_kept ds q w es

-- without policies the slice is empty
no_slice : (schema : SchemaData) (q : Request) (w : Store) → slice schema [] q w ≡ []
no_slice schema q w = by (env_of schema q)
  where
    by : (o : Option EnvData) → slice_in schema [] q w o ≡ []
    by None = refl
    by (Some env) = nothing_kept (declared_demands schema env (typed_conditions schema env [])) q w w

-- a store has at least what is needed and at most what there is, and just what is needed where the loader is exact
record Lies (exact : Bool) (least whole s : Store) : Type 0 where
  enough : IsPartOf least s
  part : IsPartOf s whole
  exactly : exact ≡ true → s ≡ least

module _ (sticks : Table → Val → Type 0) (covered : LoadedIsEnough) (faults : RefusalsAreFaults) (schema : SchemaData) (valid : IsSchema schema)
    (policies : PolicySetData) (set : IsPolicySet policies) (once : AreKeyedOnce policies.policies) (accepted : IsAccepted schema policies)
    (m : Manifest) (computed : IsManifestOf schema policies.policies m)
    (q : Request) (whole : IsWhole q) (conforms : RequestConforms schema q) (old new : LoaderState) where
  -- with a trie, or without one
  by_trie : {R : Type 0} → ((t : Table) → trie_for m q ≡ Some t → R) → (trie_for m q ≡ None → R) → R
  by_trie {R = R} f g = by (trie_for m q) refl
    where
      by : (o : Option Table) → trie_for m q ≡ o → R
      by None h = g h
      by (Some t) h = f t h

  -- where a loader says a store that conforms where it is reached, it is refused for faults alone
  refusal : (e : EntitySliceError) → Loads m q old new (Err e) sticks → (w : Store) → IsReported old w → ReachedConform schema policies.policies q w → IsFaultOrMemory old new e
  refusal e loads w known stored =
      faults schema valid policies.policies m computed q conforms w stored old new e
      record { without = λ h. loads.without whole h; right = λ t h. loads.right whole t h w known.known (record { each = known.order.order }) }

  module _ (e : EntitySliceError) (loads : Loads m q old new (Err e) sticks) (not_memory : e ≡ error.OutOfMemory → ⊥) where
    -- a loader that says its store is refused for none of its answers
    righted : (w : Store) → IsReported old w → IsRight (λ v. Unit {0}) old new e
    righted w known = by_trie (λ t h. weaker (BlocksAt t q w) e (loads.right whole t h w known.known (record { each = known.order.order }))) (λ h. absurd (not_memory (loads.without whole h)))
      where
        weaker : (P : Val → Type 0) (d : EntitySliceError) → IsRight P old new d → IsRight (λ v. Unit {0}) old new d
        weaker P (error.PartialRequest d) h = h
        weaker P (error.IncompatibleEntityManifest d) h = tt
        weaker P (error.WrongNumberOfEntities d) h = h
        weaker P (error.WrongNumberOfAncestors n k) h = h
        weaker P (error.InconsistentLoader u k d) h = h
        weaker P error.LoaderFault h = h
        weaker P error.OutOfMemory h = h

    fault_alone : (w : Store) → IsReported old w → ReachedConform schema policies.policies q w → e ≡ error.LoaderFault
    fault_alone w known stored =
        elim (refusal e loads w known stored) [
          | inl h ↦ h.0
          | inr h ↦ absurd (not_memory h)
        ]

    caused : CauseOf (λ v. Unit {0}) old new e
    caused = by_trie (λ t h. weaker (sticks t) e (loads.cause whole t h)) (λ h. absurd (not_memory (loads.without whole h)))
      where
        weaker : (P : Val → Type 0) (d : EntitySliceError) → CauseOf P old new d → CauseOf (λ v. Unit {0}) old new d
        weaker P (error.PartialRequest d) h = h
        weaker P (error.IncompatibleEntityManifest d) h = tt
        weaker P (error.WrongNumberOfEntities d) h = h
        weaker P (error.WrongNumberOfAncestors n k) h = h
        weaker P (error.InconsistentLoader u k d) h = h
        weaker P error.LoaderFault h = h
        weaker P error.OutOfMemory h = h

  why : (e : EntitySliceError) → Loads m q old new (Err e) sticks → (e ≡ error.OutOfMemory → ⊥) → WhyNotLoaded schema policies.policies q old new e
  why error.LoaderFault loads not_memory = caused error.LoaderFault loads not_memory
  why (error.IncompatibleEntityManifest e) loads not_memory =
      λ w known stored. absurd (let no = fault_alone (error.IncompatibleEntityManifest e) loads not_memory w known stored in cc)
  why (error.InconsistentLoader uid kept got) loads not_memory = λ w known. righted (error.InconsistentLoader uid kept got) loads not_memory w known
  why (error.WrongNumberOfEntities e) loads not_memory =
      ((caused (error.WrongNumberOfEntities e) loads not_memory).1, λ w known. righted (error.WrongNumberOfEntities e) loads not_memory w known)
  why (error.WrongNumberOfAncestors n k) loads not_memory =
      ((caused (error.WrongNumberOfAncestors n k) loads not_memory).1, λ w known. righted (error.WrongNumberOfAncestors n k) loads not_memory w known)
  why (error.PartialRequest e) loads not_memory = caused (error.PartialRequest e) loads not_memory
  why error.OutOfMemory loads not_memory = not_memory refl

  module _ (s : Store) (loads : Loads m q old new (Ok s) sticks) (w : Store) (known : IsReported old w) (stored : ReachedConform schema policies.policies q w) where
    lies : Lies old.exact (slice schema policies.policies q w) w s
    lies = by_trie with_trie without
      where
        with_trie : (t : Table) → trie_for m q ≡ Some t → Lies old.exact (slice schema policies.policies q w) w s
        with_trie t at =
            let is = tries_of_reads schema valid policies.policies m computed q t at in
            let ts = typed_conditions schema is.env policies.policies in
            let between = loads.between t at w known.known (record { each = known.order.order }) known.order.ids (declared_reads schema is.env ts) (declared_demands schema is.env ts) (declared_trie schema is.env ts t is.trie) in
            let same : restrict (declared_reads schema is.env ts) (declared_demands schema is.env ts) q w ≡ slice schema policies.policies q w = sym (ap (slice_in schema policies.policies q w) is.is) in
            record { enough = subst (λ r. IsPartOf r s) same between.enough; part = between.part; exactly = λ e. between.exactly e ∙ same }

        without : trie_for m q ≡ None → Lies old.exact (slice schema policies.policies q w) w s
        without h =
            let empty : s ≡ [] = loads.none whole h in
            let least : slice schema policies.policies q w ≡ [] =
            ap (λ ps. slice schema ps q w) (tries_there schema policies.policies m computed q whole conforms h) ∙ no_slice schema q w in
            record {
              enough = (needed [] [] q [], least ∙ sym (ap (part (needed [] [] q [])) empty));
              part = (needed [] [] q w, empty ∙ sym (nothing_kept [] q w w));
              exactly = λ e. empty ∙ sym least;
            }

    alike : AreDecidedAlike policies.policies q s w
    alike =
        covered schema valid policies set once m computed q w record { whole = whole; request = conforms; reached = stored; policies = accepted }
        old.exact s (λ t h reads demands fit. loads.between t h w known.known (record { each = known.order.order }) known.order.ids reads demands fit)

  -- what is promised of the result
  pub record Promised (result : Result Store EntitySliceError) : Type 0 where
    pub enough : OfKnownStores schema policies.policies q old (λ w. IfOk result (λ s. IsPartOf (slice schema policies.policies q w) s))
    pub part : OfKnownStores schema policies.policies q old (λ w. IfOk result (λ s. IsPartOf s w))
    pub exact : old.exact ≡ true → OfKnownStores schema policies.policies q old (λ w. IfOk result (λ s. s ≡ slice schema policies.policies q w))
    pub decided : OfKnownStores schema policies.policies q old (λ w. IfOk result (λ s. AreDecidedAlike policies.policies q s w))
    pub honest : OfKnownStores schema policies.policies q old (λ w. IfErr result (IsFaultOrMemory old new))
    pub cause : IfErr result (λ e. e ≢ error.OutOfMemory → WhyNotLoaded schema policies.policies q old new e)

  pub promised : (result : Result Store EntitySliceError) → Loads m q old new result sticks → Promised result
  promised (Ok s) loads = record {
    enough = λ w known stored. (lies s loads w known stored).enough;
    part = λ w known stored. (lies s loads w known stored).part;
    exact = λ e w known stored. (lies s loads w known stored).exactly e;
    decided = λ w known stored. alike s loads w known stored;
    honest = λ w known stored. tt;
    cause = tt;
  }
  promised (Err e) loads = record {
    enough = λ w known stored. tt;
    part = λ w known stored. tt;
    exact = λ x w known stored. tt;
    decided = λ w known stored. tt;
    honest = λ w known stored. refusal e loads w known stored;
    cause = λ not_memory. why e loads not_memory;
  }
