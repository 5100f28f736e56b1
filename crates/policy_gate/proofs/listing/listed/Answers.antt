use Rattle.policy_gate.specs.Answer.{IsWork, refused_listing}
use Rattle.policy_gate.specs.Reply.{reply_view}
use Rattle.policy_gate.specs.declared.command.Command.TheVariants.{List as Paged}
use Rattle.policy_gate.proofs.Listings.{paged, refusing}
use Rattle.policy_gate.proofs.Results.{more}
use Rattle.policy_gate.proofs.listing.listed.Goals as goal

pub returns-in-Ok : goal.returns-in-Ok
returns-in-Ok c =
    let found = c.in-Ok.ensures in
    more _ _ (λ r is. paged c.laws.ensures c.args.document.now c.is_well_made.ensures _ _ _ _ c.in-Ok.page (reply_view r) found.rules c.get.ensures.value c.as_ref.ensures.value found.ids found.more is.0 is.1)
    c.page_reply.result c.page_reply.ensures

pub returns-in-Err : goal.returns-in-Err
returns-in-Err c =
    more _ _ (λ r is. refusing (refused_listing c.args.document.now) (IsWork (Paged c.args.limit.now c.args.after.now) c.args.document.now) (reply_view r) is)
    c.refused_page.result c.refused_page.ensures
