-- Which answer the review of a document's policies is, and what is answered where there is none.
use Rattle.std.proofs.Common.{◌≡◌, List, ◌++◌, sym, ◌∙◌, subst}
use Rattle.std.specs.List.{flat_map}
use Rattle.finding_messages.specs.Findings.{Findings}
use Rattle.finding_messages.specs.Written.{findings_text}
use Rattle.json_document.specs.declared.document.Document.{Document}
use Rattle.policy_validate.specs.Laws.{NoErrorsWhereAccepted}
use Rattle.policy_review.specs.Levels.{levels_of}
use Rattle.policy_review.specs.Matrix.{matrix_of}
use Rattle.policy_review.specs.Refused.{WhyNone}
use Rattle.policy_review.specs.declared.error.ReviewError.{ReviewError}
use Rattle.policy_review.specs.declared.error.ReviewError.TheVariants.{Validation}
use Rattle.policy_review.specs.declared.rows.PolicyLevel.{PolicyLevel}
use Rattle.policy_review.specs.declared.rows.ReviewRow.{ReviewRow}
use Rattle.policy_gate.specs.Answer.{IsAnswerTo, IsRefusedOr, IsWork, found_in, level_line, refused_policies, refused_with, row_line}
use Rattle.policy_gate.specs.Headline.{HasAcceptedPolicies}
use Rattle.policy_gate.specs.Reply.{Answer}
use Rattle.policy_gate.specs.declared.command.Command.TheVariants.{Review}
use Rattle.policy_gate.specs.declared.status.Status.TheVariants as status
use Rattle.policy_gate.proofs.Manifests.{refused_by}

module _ (errors : NoErrorsWhereAccepted) (d : Document) (a : Answer) where
  -- of policies that are accepted their review
  pub reviewed : HasAcceptedPolicies d → (rows : List ReviewRow) → rows ≡ matrix_of d.schema d.policies → (levels : List PolicyLevel) → levels ≡ levels_of d.schema d.policies →
      a.status ≡ status.Done → a.text ≡ flat_map row_line rows ++ flat_map level_line levels → IsAnswerTo Review d a
  unfolding found_in
  reviewed is rows matrix levels least ends written =
      subst (λ es. IsRefusedOr (refused_with es (found_in d)) (IsWork Review d) a) (sym ((errors d.schema d.policies).1 is))
      (ends, written ∙ (λ i. flat_map row_line (matrix i) ++ flat_map level_line (least i)))

  -- of others what is found of them
  pub not_reviewed : (e : ReviewError) (found : Findings) → e ≡ Validation found → WhyNone d.schema d.policies e →
      IsRefusedOr (refused_with found.errors found) (λ text. text ≡ findings_text found) a → IsRefusedOr (refused_policies d) (IsWork Review d) a
  not_reviewed e found is why h =
      let w : WhyNone d.schema d.policies (Validation found) = subst (WhyNone d.schema d.policies) is why in
      refused_by errors d a w.1 (IsWork Review d) found w.0 h
