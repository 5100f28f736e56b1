use Rattle.level_spec.proofs.Reported.{faults_are_exact}
use Rattle.level_spec.proofs.laws.level_faults_are_exact.Goals as goal

pub returns : goal.returns
returns c = faults_are_exact
