-- Edits one after another, and what their end is written as.
use Rattle.std.proofs.Common.{◌≡◌, ◌∙◌, ◌+◌, ◌++◌, ℕ, List, ◌∷◌, Option, Some, None, true, false, IsOk, OnOk, true≢false, Result, Ok, Err, refl, sym, ap, subst}
use Rattle.std.specs.Prelude.{IfOk, codes, decimal}
use Rattle.std.specs.Option.{option_map, option_or}
use Rattle.json_document.specs.declared.edit.Edit.TheVariants.{Policy}
use Rattle.policy_set.specs.Condition.{has_scope_slot}
use Rattle.policy_set.specs.Data.{TemplateData}
use Rattle.policy_set.specs.PolicySet.{PolicySetData, IsPolicySet, AreKeyedOnce}
use Rattle.policy_set.specs.Removal.{RemovalFault}
use Rattle.schema_core.specs.Schema.{SchemaData}
use Rattle.manifest_core.specs.Manifest.{Manifest}
use Rattle.manifest_computation.specs.Computed.{IsManifestOf}
use Rattle.policy_validate.specs.Accepted.{IsAccepted}
use Rattle.live_manifest.specs.Edits.{Edit, add_static, add_template, Refusal, not_removed, made, refusal, after_edits}
use Rattle.live_manifest.specs.Kept.{EditedData, IsMade}
use Rattle.policy_gate.specs.Answer.{IsManifestText, IsRefusedOr, manifest_text, refused_first}
use Rattle.policy_gate.specs.Live.{edit_for, edit_text, first_refused, refusal_text, removal_text}
use Rattle.policy_gate.specs.Reply.{Answer, answer}
use Rattle.policy_gate.specs.declared.status.Status.TheVariants as status

same_some : (x y : List ℕ) → Some x ≡ Some y → x ≡ y
same_some x y h = cc h

-- what is made of an edit holds where nothing is reported of it
pub made_where : {A B E F : Type 0} (P : Type 0) (r : Result (Option A) E) (done : Result B F) → IfOk r (λ o. o ≡ None → IsOk done) → OnOk done P → IfOk r (λ o. o ≡ None → P)
made_where P (Ok o) (Ok x) h p = λ e. p
made_where P (Ok o) (Err x) h p = λ e. absurd (true≢false (sym (h e)))
made_where P (Err x) done h p = tt

-- and nothing refuses it
pub taken_where : {B F : Type 0} (e : Edit) (old new : EditedData) (done : Result B F) → OnOk done (IsMade e old new) → OnOk done (refusal old.schema old.policies e ≡ None)
taken_where e old new (Ok x) is = is.taken
taken_where e old new (Err x) is = tt

-- what is reported of a refusal
pub reported_by : (why : Option Refusal) (r : Refusal) (text : List ℕ) → text ≡ refusal_text r → why ≡ Some r → Some text ≡ option_map refusal_text why
reported_by why r text t h = ap Some t ∙ sym (ap (option_map refusal_text) h)

pub template_edit : (t : TemplateData) → has_scope_slot t ≡ true → edit_for (Policy t) ≡ add_template t
template_edit t h = rw h refl

pub static_edit : (t : TemplateData) → has_scope_slot t ≡ false → edit_for (Policy t) ≡ add_static t
static_edit t h = rw h refl

-- a removal that is refused is reported as an edit is
pub removal_reported : (o : Option RemovalFault) (text : List ℕ) → Some text ≡ option_map removal_text o → Some text ≡ option_map refusal_text (option_map not_removed o)
removal_reported None text h = absurd (cc h)
removal_reported (Some f) text h = h

module _ (schema : SchemaData) (n : ℕ) (s : PolicySetData) (e : Edit) (es : List Edit) where
  -- the first edit is refused
  pub first_reported : (text : List ℕ) → Some text ≡ option_map refusal_text (refusal schema s e) → Some (codes "edit " ++ (decimal n ++ (codes ": " ++ text))) ≡ option_map edit_text (first_refused schema n s (e ∷ es))
  first_reported text h = by (refusal schema s e) h
    where
      by : (o : Option Refusal) → Some text ≡ option_map refusal_text o →
          Some (codes "edit " ++ (decimal n ++ (codes ": " ++ text))) ≡ option_map edit_text (option_or (option_map (λ why. (n, why)) o) (first_refused schema (n + 1) (made e s) es))
      by None h = absurd (cc h)
      by (Some r) h = ap (λ t. Some (codes "edit " ++ (decimal n ++ (codes ": " ++ t)))) (same_some text (refusal_text r) h)

  -- it is made
  pub next_refused : (next : PolicySetData) → refusal schema s e ≡ None → next ≡ made e s → first_refused schema (n + 1) next es ≡ first_refused schema n s (e ∷ es)
  next_refused next h is = rw (h, is) refl

  pub next_made : (next : PolicySetData) → refusal schema s e ≡ None → next ≡ made e s → after_edits schema next es ≡ after_edits schema s (e ∷ es)
  next_made next h is = rw (h, is) refl

pub refused_end : (o : Option (ℕ × Refusal)) (W : List ℕ → Type 0) (text : List ℕ) → Some text ≡ option_map edit_text o → IsRefusedOr (refused_first o) W (answer status.Edit text)
refused_end None W text h = absurd (cc h)
refused_end (Some r) W text h = ap (answer status.Edit) (same_some text (edit_text r) h)

pub made_end : (o : Option (ℕ × Refusal)) (W : List ℕ → Type 0) (a : Answer) → None ≡ option_map edit_text o → a.status ≡ status.Done → W a.text → IsRefusedOr (refused_first o) W a
made_end None W a h ends work = (ends, work)
made_end (Some r) W a h ends work = absurd (cc h)

-- the manifest of accepted policies, written
pub written_text : (schema : SchemaData) (s t : PolicySetData) (m : Manifest) (text : List ℕ) → IsAccepted schema s → t ≡ s → IsPolicySet t → AreKeyedOnce t.policies → IsManifestOf schema t.policies m → text ≡ manifest_text m → IsManifestText schema s text
written_text schema s t m text accepted is set keys computed written = record {
  manifest = m;
  computed = subst (λ p. IsManifestOf schema p.policies m) is computed;
  written = written;
  set = subst IsPolicySet is set;
  keys = subst (λ p. AreKeyedOnce p.policies) is keys;
  accepted = accepted;
}
