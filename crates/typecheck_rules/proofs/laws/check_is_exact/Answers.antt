use Rattle.typecheck_rules.proofs.Checks.{check_exact}
use Rattle.typecheck_rules.proofs.laws.check_is_exact.Goals as goal

pub returns : goal.returns
returns c = check_exact
