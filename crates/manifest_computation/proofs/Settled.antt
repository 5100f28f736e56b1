-- Manifests of the same policies are written alike.
use Rattle.std.proofs.Common.{◌≡◌, List, [], ◌∷◌, Some, map, sym, ap, ◌∙◌, refl, codes}
use Rattle.std.specs.List.{AllZip}
use Rattle.serde_json.specs.View.{items_of}
use Rattle.manifest_core.specs.ValueJson.{alone}
use Rattle.serde_json.specs.Data.{array}
use Rattle.entity_store.specs.declared.request.RequestType.{RequestType}
use Rattle.access_tries.specs.Laws.{SameTriesAreEqual}
use Rattle.access_tries.specs.Table.{Table}
use Rattle.manifest_core.specs.TrieJson.{trie_data, roots_data, entry_data}
use Rattle.policy_set.specs.Data.{PolicyData}
use Rattle.schema_core.specs.EnvData.{EnvData, unlinked_envs}
use Rattle.schema_core.specs.Schema.{SchemaData}
use Rattle.typing_spec.specs.Typing.{Typed}
use Rattle.policy_validate.specs.Typed.{typed_conditions}
use Rattle.manifest_core.specs.Manifest.{Manifest}
use Rattle.manifest_core.specs.ManifestJson.{request_type_data, trie_entry_data, manifest_data}
use Rattle.manifest_computation.specs.Computed.{IsEntryOf}
use Rattle.manifest_computation.specs.Laws.{ManifestsAreSettled}

module _ (equal : SameTriesAreEqual) (schema : SchemaData) where
  entry_settled : (env : EnvData) (ts : List Typed) (d e : RequestType × Table) → IsEntryOf schema env ts d → IsEntryOf schema env ts e → trie_entry_data d ≡ trie_entry_data e
  entry_settled env ts d e h k =
      let type : d.0 ≡ e.0 = some_same (sym h.request_type ∙ k.request_type) in
      let trie = equal.roots d.1 e.1 h.table k.table (record { paths = λ es. h.trie.paths es ∙ sym (k.trie.paths es); marks = λ es. h.trie.marks es ∙ sym (k.trie.marks es) }) in
      (λ i. entry_data (request_type_data (type i)) (trie_data (roots_data (trie i))))
    where
      some_same : {X : Type 0} {x y : X} → Some x ≡ Some y → x ≡ y
      some_same k = cc

  entries_settled : (ps : List PolicyData) (envs : List EnvData) (m n : Manifest) → AllZip (λ env e. IsEntryOf schema env (typed_conditions schema env ps) e) envs m →
      AllZip (λ env e. IsEntryOf schema env (typed_conditions schema env ps) e) envs n → map trie_entry_data m ≡ map trie_entry_data n
  entries_settled ps [] [] [] h k = refl
  entries_settled ps [] [] (e ∷ n) h k = absurd k
  entries_settled ps [] (d ∷ m) n h k = absurd h
  entries_settled ps (env ∷ envs) [] n h k = absurd h
  entries_settled ps (env ∷ envs) (d ∷ m) [] h k = absurd k
  entries_settled ps (env ∷ envs) (d ∷ m) (e ∷ n) h k =
      (λ i. entry_settled env (typed_conditions schema env ps) d e h.0 k.0 i ∷ entries_settled ps envs m n h.1 k.1 i)

pub settled : SameTriesAreEqual → ManifestsAreSettled
settled equal schema [] m n h k = ap manifest_data (h ∙ sym k)
settled equal schema (p ∷ ps) m n h k =
    ap (λ es. alone (codes "perAction") (array (items_of es))) (entries_settled equal schema (p ∷ ps) (unlinked_envs schema) m n h k)
