use Rattle.level_spec.proofs.Least.{least_is_least}
use Rattle.level_spec.proofs.laws.least_level_is_least.Goals as goal

pub returns : goal.returns
returns c = least_is_least
