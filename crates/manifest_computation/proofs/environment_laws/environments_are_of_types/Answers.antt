use Rattle.manifest_computation.proofs.Environments.{of_types}
use Rattle.manifest_computation.proofs.environment_laws.environments_are_of_types.Goals as goal

pub returns : goal.returns
returns c = of_types
