use Rattle.level_validate.proofs.Exact.{errors_are_exact}
use Rattle.level_validate.proofs.laws.level_errors_are_exact.Goals as goal

pub returns : goal.returns
returns c = errors_are_exact c.level_faults_are_exact.ensures
