use Rattle.edit_service.proofs.Answered.{forbids_refused}
use Rattle.edit_service.proofs.forbids.fail_open.Goals as goal

pub returns-in-Some : goal.returns-in-Some
returns-in-Some c =
    let found = rw c.in-Some.is at c.in_ok-found.ensures in
    forbids_refused c.args.assumed c.args.document.now c.in-Some.found found c.refusal.result c.refusal.ensures.status c.refusal.ensures.text
