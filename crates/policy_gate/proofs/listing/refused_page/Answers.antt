use Rattle.policy_gate.specs.Reply.{reply_view}
use Rattle.policy_gate.proofs.Listings.{no_entry, no_policies, no_request, no_store}
use Rattle.policy_gate.proofs.Results.{more}
use Rattle.policy_gate.proofs.listing.refused_page.Goals as goal

pub returns-in-PartialRequest : goal.returns-in-PartialRequest
returns-in-PartialRequest c =
    more _ _ (λ r is. no_entry c.laws.ensures c.args.document.now c.is_well_made.ensures _ (reply_view r) c.in-PartialRequest.is c.requires is) c.reply_with.result c.reply_with.ensures

pub returns-in-Request : goal.returns-in-Request
returns-in-Request c =
    more _ _ (λ r is. no_request c.laws.ensures c.args.document.now c.is_well_made.ensures _ c.in-Request.fault (reply_view r) c.in-Request.is c.requires is) c.request_reply.result c.request_reply.ensures

pub returns-in-EntityDoesNotConform : goal.returns-in-EntityDoesNotConform
returns-in-EntityDoesNotConform c =
    more _ _ (λ r is. no_store c.laws.ensures c.args.document.now c.is_well_made.ensures _ c.in-EntityDoesNotConform.fault (reply_view r) c.in-EntityDoesNotConform.is c.requires is) c.store_reply.result c.store_reply.ensures

pub returns-in-Validation : goal.returns-in-Validation
returns-in-Validation c =
    more _ _ (λ r is. no_policies c.laws.ensures c.args.document.now c.is_well_made.ensures _ c.in-Validation.found (reply_view r) c.in-Validation.is c.requires is) c.reported.result c.reported.ensures
