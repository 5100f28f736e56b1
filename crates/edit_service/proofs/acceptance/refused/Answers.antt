use Rattle.std.proofs.Common.{◌∙◌, ap, inr}
use Rattle.finding_messages.specs.Written.{findings_text}
use Rattle.edit_service.proofs.acceptance.refused.Goals as goal

-- those before are accepted, and those after are not
pub returns-in_ok-refusal-in-Some-2 : goal.returns-in_ok-refusal-in-Some-2
returns-in_ok-refusal-in-Some-2 c =
    let before = rw c.in-None.is at c.in_ok-found.ensures in
    let after = rw c.in-Some-2.is at c.in_ok-found-in-None.ensures in
    (c.in_ok-refusal-in-Some-2.ensures.status, inr (before, (after.1, c.in_ok-refusal-in-Some-2.ensures.text ∙ ap findings_text after.0)))
