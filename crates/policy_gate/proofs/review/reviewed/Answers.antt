use Rattle.policy_gate.specs.Reply.{reply_view}
use Rattle.policy_gate.proofs.Results.{more}
use Rattle.policy_gate.proofs.Reviews.{reviewed, not_reviewed}
use Rattle.policy_gate.proofs.review.reviewed.Goals as goal

pub returns-in-Ok : goal.returns-in-Ok
returns-in-Ok c =
    let found = c.in-Ok.ensures in
    more _ _ (λ r is. reviewed c.no_errors_where_accepted.ensures c.args.document.now (reply_view r) found.accepted _ found.matrix _ found.levels is.0 is.1)
    c.written_review.result c.written_review.ensures

pub returns-in-Err-Validation : goal.returns-in-Err-Validation
returns-in-Err-Validation c =
    let w = c.in-Err-Validation in
    more _ _ (λ r is. not_reviewed c.no_errors_where_accepted.ensures c.args.document.now (reply_view r) w.field-0 w.found w.field-0-is w.ensures.refused is)
    c.reported.result c.reported.ensures
