use Rattle.std.proofs.Common.{◌≡◌, ap, refl, ◌∙◌}
use Rattle.serde_json.specs.View.{view}
use Rattle.serde_json.specs.Written.{has_float, compact_text}
use Rattle.manifest_core.specs.ManifestJson.{manifest_data}
use Rattle.policy_gate.specs.Answer.{manifest_text}
use Rattle.manifest_core.proofs.Floats.{manifest_has_none}
use Rattle.policy_gate.proofs.answer.manifest_text.Goals as goal

pub returns : goal.returns
unfolding manifest_text
returns c =
    let expected = manifest_data c.args.manifest.now in
    let written : view c.in_ok-written.written ≡ expected = c.in_ok-written.ensures in
    let none = ap has_float written ∙ manifest_has_none c.args.manifest.now in
    let text = c.in_ok-text.ensures.text none ∙ ap compact_text written in
    rw (c.in_ok-push_str.ensures.bytes, text) refl
