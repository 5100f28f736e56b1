use Rattle.std.proofs.Common.{◌≡◌, subst}
use Rattle.std.specs.Prelude.{IfOk}
use Rattle.finding_messages.specs.Written.{findings_text}
use Rattle.policy_gate.specs.Answer.{IsRefusedOr, refused_with}
use Rattle.policy_gate.specs.Reply.{reply_view}
use Rattle.policy_gate.proofs.answer.with_findings.Goals as goal

pub returns : goal.returns
returns c =
    subst (λ f. IfOk c.reported.result (λ r. IsRefusedOr (refused_with f.errors f) (λ text. text ≡ findings_text f) (reply_view r)))
    c.in_ok-found.ensures c.reported.ensures
