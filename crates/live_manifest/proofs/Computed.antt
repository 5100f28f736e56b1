-- What is kept is what is computed.
use Rattle.std.proofs.Common.{◌≡◌, List, [], ◌∷◌, Some, refl, sym, ap, ◌∙◌, subst}
use Rattle.std.specs.List.{AllZip}
use Rattle.schema_core.specs.EnvData.{EnvData, unlinked_envs}
use Rattle.schema_core.specs.Schema.{SchemaData}
use Rattle.policy_set.specs.Data.{PolicyData}
use Rattle.policy_validate.specs.Typed.{typed_conditions}
use Rattle.manifest_core.specs.Laws.{AreSameEntries}
use Rattle.manifest_core.specs.Manifest.{Manifest}
use Rattle.manifest_computation.specs.Computed.{IsEntryOf, IsManifestOf}
use Rattle.manifest_computation.specs.Laws.{ManifestsAreSettled}
use Rattle.live_manifest.specs.Laws.{KeptAreComputed}

module _ (schema : SchemaData) (ps : List PolicyData) where
  entries_same : (envs : List EnvData) (m n : Manifest) → AllZip (λ env e. IsEntryOf schema env (typed_conditions schema env ps) e) envs m → AllZip (λ env e. IsEntryOf schema env (typed_conditions schema env ps) e) envs n → AreSameEntries m n
  entries_same [] [] [] h k = tt
  entries_same [] [] (e ∷ n) h k = absurd k
  entries_same [] (d ∷ m) n h k = absurd h
  entries_same (env ∷ envs) [] n h k = absurd h
  entries_same (env ∷ envs) (d ∷ m) [] h k = absurd k
  entries_same (env ∷ envs) (d ∷ m) (e ∷ n) h k = (
    some_same (sym h.0.request_type ∙ k.0.request_type),
    record { paths = λ es. h.0.trie.paths es ∙ sym (k.0.trie.paths es); marks = λ es. h.0.trie.marks es ∙ sym (k.0.trie.marks es) },
    entries_same envs m n h.1 k.1,
  )
    where
      some_same : {X : Type 0} {x y : X} → Some x ≡ Some y → x ≡ y
      some_same k = cc

same : (schema : SchemaData) (ps : List PolicyData) (m n : Manifest) → IsManifestOf schema ps m → IsManifestOf schema ps n → AreSameEntries m n
same schema [] m n h k = subst (λ l. AreSameEntries l n) (sym h) (subst (AreSameEntries []) (sym k) tt)
same schema (p ∷ ps) m n h k = entries_same schema (p ∷ ps) (unlinked_envs schema) m n h k

pub computed : ManifestsAreSettled → KeptAreComputed
computed settled l kept m h = (same l.schema l.policies.policies l.manifest m kept.manifest h, settled l.schema l.policies.policies l.manifest m kept.manifest h)
