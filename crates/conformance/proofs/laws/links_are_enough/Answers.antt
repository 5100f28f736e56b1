use Rattle.conformance.proofs.Links.{enough}
use Rattle.conformance.proofs.laws.links_are_enough.Goals as goal

pub returns : goal.returns
returns c = enough
