use Rattle.std.proofs.Common.{subst}
use Rattle.std.specs.List.{AllZip}
use Rattle.entity_manifest.specs.Answers.{IsStoreAnswer}
use Rattle.policy_gate.specs.Answer.{IsWork}
use Rattle.policy_gate.specs.Reply.{reply_view}
use Rattle.policy_gate.specs.declared.command.Command.TheVariants.{Batch}
use Rattle.policy_gate.proofs.Lines.{all_reported, answered}
use Rattle.policy_gate.proofs.Manifests.{refused}
use Rattle.policy_gate.proofs.Results.{more}
use Rattle.policy_gate.proofs.batch.over_store.Goals as goal

pub lines_reply-requires : goal.lines_reply-requires
lines_reply-requires c =
    let d = c.args.document.now in let answers = c.in-Ok.answers.items in
    let are = subst (λ qs. AllZip (IsStoreAnswer d.schema d.policies.policies d.entities) qs answers) c.as_vec.ensures c.in-Ok.ensures.answers in
    all_reported c.laws.ensures d c.is_well_made.ensures d.requests answers are

pub returns-in-Ok : goal.returns-in-Ok
returns-in-Ok c =
    let d = c.args.document.now in let answers = c.in-Ok.answers.items in
    let are = subst (λ qs. AllZip (IsStoreAnswer d.schema d.policies.policies d.entities) qs answers) c.as_vec.ensures c.in-Ok.ensures.answers in
    more _ _ (λ r is. answered c.laws.ensures d c.is_well_made.ensures c.in-Ok.ensures.accepted answers are (reply_view r) is.0 is.1) c.lines_reply.result c.lines_reply.ensures

pub returns-in-Err-Validation : goal.returns-in-Err-Validation
returns-in-Err-Validation c =
    let w = c.in-Err-Validation in
    more _ _ (λ r is. refused c.laws.ensures.errors c.args.document.now (reply_view r) (IsWork Batch c.args.document.now) w.field-0 w.found w.field-0-is w.ensures.refused is) c.reported.result c.reported.ensures
