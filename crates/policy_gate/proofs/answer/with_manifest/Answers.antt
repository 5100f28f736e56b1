use Rattle.policy_gate.specs.Answer.{IsWork}
use Rattle.policy_gate.specs.Reply.{reply_view}
use Rattle.policy_gate.specs.declared.command.Command.TheVariants.{Manifest as Reads}
use Rattle.policy_gate.proofs.Manifests.{accepted, refused}
use Rattle.policy_gate.proofs.Results.{more}
use Rattle.policy_gate.proofs.answer.with_manifest.Goals as goal

pub returns-in-Ok : goal.returns-in-Ok
returns-in-Ok c =
    more _ _ (λ r is. accepted c.no_errors_where_accepted.ensures c.args.document.now (reply_view r) c.in-Ok.ensures.accepted _ c.in-Ok.ensures.manifest is.0 is.1)
    c.written_manifest.result c.written_manifest.ensures

pub returns-in-Err-Validation : goal.returns-in-Err-Validation
returns-in-Err-Validation c =
    let w = c.in-Err-Validation in
    more _ _ (λ r is. refused c.no_errors_where_accepted.ensures c.args.document.now (reply_view r) (IsWork Reads c.args.document.now) w.field-0 w.found w.field-0-is w.ensures.refused is) c.reported.result c.reported.ensures
