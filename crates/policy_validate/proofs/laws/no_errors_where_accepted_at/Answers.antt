use Rattle.policy_validate.proofs.LevelErrors.{no_errors_at}
use Rattle.policy_validate.proofs.laws.no_errors_where_accepted_at.Goals as goal

pub returns : goal.returns
returns c = no_errors_at c.no_errors_where_accepted.ensures c.level_errors_of_are_exact.ensures
