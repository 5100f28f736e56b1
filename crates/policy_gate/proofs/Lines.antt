-- The lines on many requests are those of the answers over the store.
use Rattle.std.proofs.Common.{◌≡◌, List, [], ◌∷◌, refl, sym, ◌∙◌, subst}
use Rattle.std.proofs.lemmas.List.Elements.{All-from_recursion}
use Rattle.std.specs.List.{All, AllByRecursion, AllZip, flat_map}
use Rattle.entity_store.specs.declared.request.Request.{Request}
use Rattle.json_document.specs.declared.document.Document.{Document}
use Rattle.entity_manifest.specs.Answers.{IsStoreAnswer}
use Rattle.entity_manifest.specs.declared.answer.BatchAnswer.{BatchAnswer}
use Rattle.entity_manifest.specs.declared.answer.BatchAnswer.TheVariants.{Partial, Refused, Loading, Decided}
use Rattle.policy_gate.specs.Answer.{IsRefusedOr, IsWellMade, IsWork, refused_policies, request_line}
use Rattle.policy_gate.specs.Batch.{IsReportedOfStore, line_on}
use Rattle.policy_gate.specs.Headline.{HasAcceptedPolicies}
use Rattle.policy_gate.specs.Laws.{Laws}
use Rattle.policy_gate.specs.Reply.{Answer}
use Rattle.policy_gate.specs.declared.command.Command.TheVariants.{Batch}
use Rattle.policy_gate.specs.declared.status.Status.TheVariants as status
use Rattle.policy_gate.proofs.Says.{not_refused, parts_whole, partial_line, line_decided}

module _ (laws : Laws) (d : Document) (made : IsWellMade d) where
  abbrev IsAnswer : Request → BatchAnswer → Type 0
  IsAnswer q a = IsStoreAnswer d.schema d.policies.policies d.entities q a

  line_is : (q : Request) (a : BatchAnswer) → IsAnswer q a → line_on a ≡ request_line d q
  line_is q Partial is = sym (partial_line d q is)
  line_is q (Refused e) (whole, broken) = rw (parts_whole q whole, broken) refl
  line_is q (Loading e) is = absurd is
  line_is q (Decided r) (whole, conforms, is) = rw is (sym (line_decided laws d made q whole conforms))

  pub lines_are : (qs : List Request) (answers : List BatchAnswer) → AllZip IsAnswer qs answers → flat_map line_on answers ≡ flat_map (request_line d) qs
  lines_are [] [] h = refl
  lines_are [] (a ∷ answers) h = absurd h
  lines_are (q ∷ qs) [] h = absurd h
  lines_are (q ∷ qs) (a ∷ answers) h = rw (line_is q a h.0, lines_are qs answers h.1) refl

  reported : (q : Request) (a : BatchAnswer) → IsAnswer q a → IsReportedOfStore a
  reported q Partial is = tt
  reported q (Refused e) is = tt
  reported q (Loading e) is = is
  reported q (Decided r) is = tt

  each_reported : (qs : List Request) (answers : List BatchAnswer) → AllZip IsAnswer qs answers → AllByRecursion IsReportedOfStore answers
  each_reported [] [] h = tt
  each_reported [] (a ∷ answers) h = absurd h
  each_reported (q ∷ qs) [] h = tt
  each_reported (q ∷ qs) (a ∷ answers) h = (reported q a h.0, each_reported qs answers h.1)

  pub all_reported : (qs : List Request) (answers : List BatchAnswer) → AllZip IsAnswer qs answers → All IsReportedOfStore answers
  all_reported qs answers h = All-from_recursion IsReportedOfStore answers (each_reported qs answers h)

  -- of accepted policies the lines
  pub answered : HasAcceptedPolicies d → (answers : List BatchAnswer) → AllZip IsAnswer d.requests answers → (a : Answer) → a.status ≡ status.Done → a.text ≡ flat_map line_on answers → IsRefusedOr (refused_policies d) (IsWork Batch d) a
  answered accepted answers is a ends written =
      subst (λ o. IsRefusedOr o (IsWork Batch d) a) (sym (not_refused laws d accepted)) (ends, written ∙ lines_are d.requests answers is)
