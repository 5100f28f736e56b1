use Rattle.entity_manifest.proofs.Loaded.{tries_there}
use Rattle.entity_manifest.proofs.loading_laws.tries_are_there.Goals as goal

pub returns : goal.returns
returns c = tries_there
