use Rattle.entity_manifest.proofs.OneManifest.{one_manifest}
use Rattle.entity_manifest.proofs.laws.policies_have_one_manifest.Goals as goal

pub returns : goal.returns
returns c = one_manifest c.same_tries_are_equal.ensures
