use Rattle.live_manifest.proofs.Computed.{computed}
use Rattle.live_manifest.proofs.laws.kept_are_computed.Goals as goal

pub returns : goal.returns
returns c = computed c.manifests_are_settled.ensures
