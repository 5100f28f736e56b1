use Rattle.std.proofs.Common.{◌≡◌, ap, refl, ◌∙◌}
use Rattle.serde_json.specs.View.{view}
use Rattle.serde_json.specs.Written.{has_float, compact_text}
use Rattle.policy_gate.specs.Answer.{refused_json, refused_line}
use Rattle.policy_gate.proofs.batch.refused_line.Goals as goal

pub returns : goal.returns
unfolding refused_line
returns c =
    let written : view c.in_ok-write_refused.field-0 ≡ refused_json c.args.message.now = c.in_ok-write_refused.ensures in
    let text = c.in_ok-text.ensures.text (ap has_float written) ∙ ap compact_text written in
    rw (c.in_ok-push_str.ensures.bytes, text) refl
