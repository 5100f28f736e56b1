use Rattle.typecheck_rules.proofs.Failure.{failure_reported}
use Rattle.typecheck_rules.proofs.laws.failure_is_reported.Goals as goal

pub returns : goal.returns
returns c = failure_reported
