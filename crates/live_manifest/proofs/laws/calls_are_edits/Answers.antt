use Rattle.live_manifest.proofs.Calls.{calls_are_edits}
use Rattle.live_manifest.proofs.laws.calls_are_edits.Goals as goal

pub returns : goal.returns
returns c = calls_are_edits
