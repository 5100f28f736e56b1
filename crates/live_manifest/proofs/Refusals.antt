-- Why an edit is refused.
use Rattle.std.proofs.Common.{◌≡◌, List, [], ◌∷◌, Option, Some, None, refl, sym, ap, ◌∙◌, subst}
use Rattle.findings.specs.declared.error.ValidationError.{ValidationError}
use Rattle.finding_messages.specs.Findings.{Findings}
use Rattle.policy_set.specs.PolicySet.{IsNotAdded}
use Rattle.policy_set.specs.declared.policy_set.PolicySetError.{PolicySetError}
use Rattle.policy_set.specs.declared.policy_set.PolicySetError.TheVariants.{DuplicateId, UnknownTemplate, SlotMissing, SlotExtra, OutOfMemory}
use Rattle.live_manifest.specs.Edits.{errors, not_added, or_findings, refused_with}
use Rattle.live_manifest.specs.Faults.{IsFaulty, IsNotAddedFor}
use Rattle.live_manifest.specs.Kept.{IsRefusedFor}
use Rattle.live_manifest.specs.declared.error.LiveManifestError.{LiveManifestError}
use Rattle.live_manifest.specs.declared.error.LiveManifestError.TheVariants as refused

pub none_refused : (o : Option PolicySetError) (found : Findings) → o ≡ None → found.errors ≡ [] → or_findings o found ≡ None
none_refused o found h k = ap (λ p. or_findings p found) h ∙ ap (λ es. refused_with es found) k

-- with a fault of the set
pub set_refuses : (o : Option PolicySetError) (found : Findings) (e : PolicySetError) → IsNotAdded o e → (error : LiveManifestError) → IsNotAddedFor e error → IsRefusedFor (or_findings o found) error
set_refuses o found e h error k = by e h k
  where
    reported : (f : PolicySetError) → o ≡ Some f → error ≡ refused.PolicySet f → IsRefusedFor (or_findings o found) error
    reported f h k = subst (IsRefusedFor (or_findings o found)) (sym k) (ap (λ p. or_findings p found) h)

    by : (f : PolicySetError) → IsNotAdded o f → IsNotAddedFor f error → IsRefusedFor (or_findings o found) error
    by OutOfMemory h k = subst (IsRefusedFor (or_findings o found)) (sym k) tt
    by (DuplicateId id) h k = reported (DuplicateId id) h k
    by (UnknownTemplate id) h k = reported (UnknownTemplate id) h k
    by (SlotMissing i) h k = reported (SlotMissing i) h k
    by (SlotExtra i) h k = reported (SlotExtra i) h k

-- with errors in what is added
pub findings_refuse : (o : Option PolicySetError) (found : Findings) → o ≡ None → (error : LiveManifestError) → IsFaulty found error → IsRefusedFor (or_findings o found) error
findings_refuse o found h (refused.PolicySet fault) k = absurd k
findings_refuse o found h refused.OutOfMemory k = tt
findings_refuse o found h (refused.Validation reported) k = ap (λ p. or_findings p found) h ∙ by found.errors k.1 ∙ ap (λ f. Some (errors f)) (sym k.0)
  where
    by : (es : List ValidationError) → ¬ (es ≡ []) → refused_with es found ≡ Some (errors found)
    by [] n = absurd (n refl)
    by (e ∷ es) n = refl
