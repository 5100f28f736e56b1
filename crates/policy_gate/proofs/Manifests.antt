-- Which answer the manifest of a document's policies is, and what is answered where there is none.
use Rattle.std.proofs.Common.{◌≡◌, List, [], ◌∷◌, refl, sym, subst}
use Rattle.manifest_core.specs.Manifest.{Manifest}
use Rattle.findings.specs.declared.error.ValidationError.{ValidationError}
use Rattle.finding_messages.specs.Findings.{Findings}
use Rattle.finding_messages.specs.Written.{findings_text}
use Rattle.json_document.specs.declared.document.Document.{Document}
use Rattle.policy_validate.specs.Accepted.{findings_of}
use Rattle.policy_validate.specs.Laws.{NoErrorsWhereAccepted}
use Rattle.manifest_computation.specs.Computed.{IsManifestOf, WhyNone}
use Rattle.manifest_computation.specs.declared.error.EntityManifestError.{EntityManifestError}
use Rattle.manifest_computation.specs.declared.error.EntityManifestError.TheVariants.{Validation}
use Rattle.policy_gate.specs.Answer.{IsAnswerTo, IsRefusedOr, IsWork, found_in, manifest_text, refused_policies, refused_with}
use Rattle.policy_gate.specs.Headline.{HasAcceptedPolicies}
use Rattle.policy_gate.specs.Reply.{Answer}
use Rattle.policy_gate.specs.declared.command.Command.TheVariants.{Manifest as Reads}
use Rattle.policy_gate.specs.declared.status.Status.TheVariants as status

module _ (errors : NoErrorsWhereAccepted) (d : Document) (a : Answer) where
  -- of policies that are accepted their manifest
  pub accepted : HasAcceptedPolicies d → (m : Manifest) → IsManifestOf d.schema d.policies.policies m → a.status ≡ status.Done → a.text ≡ manifest_text m → IsAnswerTo Reads d a
  unfolding found_in
  accepted is m computed ends written =
      subst (λ es. IsRefusedOr (refused_with es (found_in d)) (IsWork Reads d) a) (sym ((errors d.schema d.policies).1 is)) (ends, (m, computed, written))

  other_work : (es : List ValidationError) (found : Findings) (V W : List _ → Type 0) → (es ≡ [] → ⊥) → IsRefusedOr (refused_with es found) V a → IsRefusedOr (refused_with es found) W a
  other_work [] found V W some h = absurd (some refl)
  other_work (e ∷ es) found V W some h = h

  -- of others what is found of them
  pub refused_by : (HasAcceptedPolicies d → ⊥) → (W : List _ → Type 0) (found : Findings) → found ≡ findings_of d.schema d.policies → IsRefusedOr (refused_with found.errors found) (λ text. text ≡ findings_text found) a → IsRefusedOr (refused_policies d) W a
  unfolding found_in
  refused_by fails W found is h =
      other_work (findings_of d.schema d.policies).errors (findings_of d.schema d.policies) (λ text. text ≡ findings_text (findings_of d.schema d.policies)) W
      (λ e. fails ((errors d.schema d.policies).0 e)) (subst (λ f. IsRefusedOr (refused_with f.errors f) (λ text. text ≡ findings_text f) a) is h)

  pub refused : (W : List _ → Type 0) (e : EntityManifestError) (found : Findings) → e ≡ Validation found → WhyNone d.schema d.policies e → IsRefusedOr (refused_with found.errors found) (λ text. text ≡ findings_text found) a → IsRefusedOr (refused_policies d) W a
  refused W e found is why h = let w : WhyNone d.schema d.policies (Validation found) = subst (WhyNone d.schema d.policies) is why in refused_by w.1 W found w.0 h
