use Rattle.std.proofs.Common.{◌≡◌, List, [], ◌∷◌, ap, ◌∙◌}
use Rattle.findings.specs.declared.error.ValidationError.{ValidationError}
use Rattle.finding_messages.specs.Findings.{Findings}
use Rattle.finding_messages.specs.Written.{findings_text}
use Rattle.policy_gate.specs.Answer.{IsRefusedOr, refused_with, status_of}
use Rattle.policy_gate.specs.Reply.{Answer, answer, reply_view}
use Rattle.policy_gate.proofs.Results.{more}
use Rattle.policy_gate.proofs.answer.reported.Goals as goal

answered : (es : List ValidationError) (found : Findings) (a : Answer) → a ≡ answer (status_of es) (findings_text found) → IsRefusedOr (refused_with es found) (λ text. text ≡ findings_text found) a
answered [] found a is = (ap (λ b. b.status) is, ap (λ b. b.text) is)
answered (e ∷ es) found a is = is

pub returns : goal.returns
returns c = more _ _ (λ r is. answered c.args.found.now.errors c.args.found.now (reply_view r) (is ∙ cc (c.status_of-status.ensures, c.as_str.ensures, c.text.view_is, c.in_ok-text.ensures))) c.reply_with.result c.reply_with.ensures
