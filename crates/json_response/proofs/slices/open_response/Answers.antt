use Rattle.std.proofs.Common.{map, ap, ◌∙◌}
use Rattle.serde_json.specs.Data.{string, array}
use Rattle.serde_json.specs.View.{items_of}
use Rattle.serde_json.specs.Written.{has_float}
use Rattle.json_response.specs.SliceJson.{decision_text, failure_data}
use Rattle.json_response.proofs.Floats.{failures_have_none, ids_have_none}
use Rattle.json_response.proofs.Pieces.{response_pieces}
use Rattle.json_response.proofs.slices.open_response.Goals as goal

pub returns : goal.returns
returns c =
    let r = c.args.response.now in
    let decision_is = c.in_ok-decision.ensures ∙ ap (λ d. string (decision_text d)) c.decision.ensures in
    let errors_are = c.in_ok-errors.ensures ∙ ap (λ fs. array (items_of (map failure_data fs))) c.errors.ensures in
    let reasons_are = c.in_ok-reasons.ensures ∙ ap (λ ids. array (items_of (map string ids))) c.reasons.ensures in
    let decision = c.in_ok-append.ensures (ap has_float decision_is) in
    let errors = c.in_ok-append-2.ensures (ap has_float errors_are ∙ failures_have_none r.errors) in
    let reasons = c.in_ok-append-3.ensures (ap has_float reasons_are ∙ ids_have_none r.reasons) in
    rw (reasons, c.in_ok-push_str-3.ensures.bytes, errors, c.in_ok-push_str-2.ensures.bytes, decision, c.in_ok-push_str.ensures.bytes, c.new-text.ensures.bytes)
    (response_pieces r _ _ _ decision_is errors_are reasons_are)
