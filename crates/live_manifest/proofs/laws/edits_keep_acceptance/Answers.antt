use Rattle.live_manifest.proofs.Edits.{edits_keep}
use Rattle.live_manifest.proofs.laws.edits_keep_acceptance.Goals as goal

pub returns : goal.returns
returns c = edits_keep c.entries_are_accepted.ensures c.acceptance_is_by_entry.ensures
