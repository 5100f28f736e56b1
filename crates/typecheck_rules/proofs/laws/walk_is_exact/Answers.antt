use Rattle.typecheck_rules.proofs.Agree.{walk_exact}
use Rattle.typecheck_rules.proofs.laws.walk_is_exact.Goals as goal

pub returns : goal.returns
returns c = walk_exact
