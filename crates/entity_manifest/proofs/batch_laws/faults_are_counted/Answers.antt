use Rattle.entity_manifest.proofs.OneAfterAnother.{counted}
use Rattle.entity_manifest.proofs.batch_laws.faults_are_counted.Goals as goal

pub returns : goal.returns
returns c = counted
