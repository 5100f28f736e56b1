-- A document has one answer to a command: one reading, and one text of the command's work.
use Rattle.std.proofs.Common.{◌≡◌, ◌∙◌, ℕ, List, ◌++◌, inl, inr, Option, Some, None, Result, Ok, Err, ap, codes, subst, sym}
use Rattle.policy_set.specs.Data.{PolicyData}
use Rattle.schema_core.specs.Schema.{SchemaData}
use Rattle.serde_json.specs.Written.{compact_text}
use Rattle.json_document.specs.Reading.{IsReadAs}
use Rattle.json_document.specs.declared.document.Document.{Document}
use Rattle.json_document.specs.declared.place.Place.{Place}
use Rattle.json_document.specs.declared.shape.Shape.{Shape}
use Rattle.manifest_core.specs.Manifest.{Manifest}
use Rattle.manifest_computation.specs.Computed.{IsManifestOf}
use Rattle.manifest_computation.specs.Laws.{ManifestsAreSettled}
use Rattle.policy_gate.specs.Answer.{IsAnswer, IsRefusedOr, IsWork, manifest_text, refusal}
use Rattle.policy_gate.specs.Command.{shape_of}
use Rattle.policy_gate.specs.Live.{policies_after}
use Rattle.policy_gate.specs.Reply.{Answer, answer}
use Rattle.policy_gate.specs.declared.command.Command.{Command}
use Rattle.policy_gate.specs.declared.command.Command.TheVariants.{Check, Level, Request, Manifest as Reads, Slice, Decide, Sample, Batch, Live, Review, List as Page}
use Rattle.document_laws.specs.AnswerLaws.{AnswersAreSettled}
use Rattle.document_laws.proofs.Readings.{computed, unique}
use Rattle.document_laws.proofs.Rules.{IsUnique}

-- bytes have one reading as a document of a shape
one_reading : (shape : Shape) (bytes : List ℕ) → IsUnique (IsReadAs shape bytes)
unfolding IsReadAs
one_reading shape bytes = computed _ _ (unique shape)

same_answer : (a b : Answer) → a.status ≡ b.status → a.text ≡ b.text → a ≡ b
same_answer a b s t = λ i. answer (s i) (t i)

-- a refusal, or else the one text of the work
one_of_either : (o : Option Answer) (IsDone : List ℕ → Type 0) → ((t u : List ℕ) → IsDone t → IsDone u → t ≡ u)
    → (a b : Answer) → IsRefusedOr o IsDone a → IsRefusedOr o IsDone b → a ≡ b
one_of_either None IsDone one a b x y = same_answer a b (x.0 ∙ sym y.0) (one a.text b.text x.1 y.1)
one_of_either (Some r) IsDone one a b x y = x ∙ sym y

module _ (manifests : ManifestsAreSettled) where
  -- manifests of the same policies have one text
  one_text : (schema : SchemaData) (ps : List PolicyData) (m n : Manifest) (t u : List ℕ) → IsManifestOf schema ps m → IsManifestOf schema ps n
      → t ≡ manifest_text m → u ≡ manifest_text n → t ≡ u
  unfolding manifest_text
  one_text schema ps m n t u is are e f = e ∙ ap (λ d. compact_text d ++ codes "\n") (manifests schema ps m n is are) ∙ sym f

  one_work : (c : Command) (d : Document) (t u : List ℕ) → IsWork c d t → IsWork c d u → t ≡ u
  one_work Check d t u x y = x ∙ sym y
  one_work (Level n) d t u x y = x ∙ sym y
  one_work Request d t u x y = x ∙ sym y
  one_work Reads d t u (m, is, e) (n, are, f) = one_text d.schema d.policies.policies m n t u is are e f
  one_work Slice d t u x y = x ∙ sym y
  one_work Decide d t u x y = x ∙ sym y
  one_work (Sample seed size) d t u x y = x ∙ sym y
  one_work Batch d t u x y = x ∙ sym y
  one_work Live d t u x y = one_text d.schema (policies_after d).policies x.manifest y.manifest t u x.computed y.computed x.written y.written
  one_work Review d t u x y = x ∙ sym y
  one_work (Page limit after) d t u x y = x ∙ sym y

  pub settled : AnswersAreSettled
  unfolding IsAnswer
  settled c bytes a b (inl (p, r, e)) (inl (q, s, f)) =
      let same : p ≡ q = cc (one_reading (shape_of c) bytes (Err p) (Err q) r s) in
      cc (e, f, same)
  settled c bytes a b (inl (p, r, e)) (inr (d, s, made, y)) = absurd (cc (one_reading (shape_of c) bytes (Err p) (Ok d) r s))
  settled c bytes a b (inr (d, r, made, x)) (inl (q, s, f)) = absurd (cc (one_reading (shape_of c) bytes (Err q) (Ok d) s r))
  settled c bytes a b (inr (d, r, made, x)) (inr (e, s, well, y)) =
      let same : e ≡ d = cc (one_reading (shape_of c) bytes (Ok e) (Ok d) s r) in
      one_of_either (refusal c d) (IsWork c d) (one_work c d) a b x (subst (λ z. IsRefusedOr (refusal c z) (IsWork c z) b) same y)
