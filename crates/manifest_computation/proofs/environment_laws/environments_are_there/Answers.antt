use Rattle.manifest_computation.proofs.Environments.{are_there}
use Rattle.manifest_computation.proofs.environment_laws.environments_are_there.Goals as goal

pub returns : goal.returns
returns c = are_there
