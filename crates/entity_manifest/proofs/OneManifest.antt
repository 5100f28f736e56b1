-- Manifests of the same policies are equal.
use Rattle.std.proofs.Common.{◌≡◌, true, ◌&&◌, List, [], ◌∷◌, Some, sym, ◌∙◌, refl, subst}
use Rattle.std.specs.List.{AllZip}
use Rattle.access_tries.specs.Laws.{SameTriesAreEqual}
use Rattle.access_tries.specs.Same.{same_branches}
use Rattle.access_tries.specs.Trees.{branches_of}
use Rattle.policy_set.specs.Data.{PolicyData}
use Rattle.schema_core.specs.EnvData.{EnvData, unlinked_envs}
use Rattle.schema_core.specs.Schema.{SchemaData}
use Rattle.manifest_computation.specs.Typed.{typed_conditions}
use Rattle.manifest_core.specs.Manifest.{Manifest}
use Rattle.manifest_core.specs.Same.{same_request_types, same_manifests, same_manifests_equiv}
use Rattle.manifest_computation.specs.Computed.{IsEntryOf}
use Rattle.entity_manifest.specs.Computed.{PoliciesHaveOneManifest}

some_same : {X : Type 0} {x y : X} → Some x ≡ Some y → x ≡ y
some_same k = cc

module _ (equal : SameTriesAreEqual) (schema : SchemaData) where
  entries_alike : (ps : List PolicyData) (envs : List EnvData) (m n : Manifest) →
      AllZip (λ env e. IsEntryOf schema env (typed_conditions schema env ps) e) envs m →
      AllZip (λ env e. IsEntryOf schema env (typed_conditions schema env ps) e) envs n → same_manifests m n ≡ same_manifests m m
  entries_alike ps [] [] [] h k = refl
  entries_alike ps [] [] (e ∷ n) h k = absurd k
  entries_alike ps [] (d ∷ m) n h k = absurd h
  entries_alike ps (env ∷ envs) [] n h k = absurd h
  entries_alike ps (env ∷ envs) (d ∷ m) [] h k = absurd k
  entries_alike ps (env ∷ envs) (d ∷ m) (e ∷ n) h k =
      let type : e.0 ≡ d.0 = some_same (sym k.0.request_type ∙ h.0.request_type) in
      let trie = equal.roots e.1 d.1 k.0.table h.0.table (record { paths = λ es. k.0.trie.paths es ∙ sym (h.0.trie.paths es); marks = λ es. k.0.trie.marks es ∙ sym (h.0.trie.marks es) }) in
      (λ i. (same_request_types d.0 (type i) && same_branches (branches_of d.1) (trie i)) && entries_alike ps envs m n h.1 k.1 i)

pub one_manifest : SameTriesAreEqual → PoliciesHaveOneManifest
one_manifest equal schema [] m n h k = subst (λ o. same_manifests m o ≡ true) (h ∙ sym k) (same_manifests_equiv.refl m)
one_manifest equal schema (p ∷ ps) m n h k = entries_alike equal schema (p ∷ ps) (unlinked_envs schema) m n h k ∙ same_manifests_equiv.refl m
