use Rattle.manifest_computation.proofs.RequestTries.{tries_of_reads}
use Rattle.manifest_computation.proofs.laws.tries_are_of_reads.Goals as goal

pub returns : goal.returns
returns c = tries_of_reads
