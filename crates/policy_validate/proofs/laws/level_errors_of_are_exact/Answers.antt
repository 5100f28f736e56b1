use Rattle.policy_validate.proofs.LevelErrors.{level_errors_exact}
use Rattle.policy_validate.proofs.laws.level_errors_of_are_exact.Goals as goal

pub returns : goal.returns
returns c = level_errors_exact c.check_is_exact.ensures c.refusals_are_reported.ensures c.level_errors_are_exact.ensures
