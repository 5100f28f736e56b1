use Rattle.entity_manifest.proofs.Manifests.{tries_declared}
use Rattle.entity_manifest.proofs.laws.computed_tries_are_declared.Goals as goal

pub returns : goal.returns
returns c = tries_declared
