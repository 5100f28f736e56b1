use Rattle.typecheck_rules.proofs.Checks.{refusal_known}
use Rattle.typecheck_rules.proofs.laws.refusal_is_reported.Goals as goal

pub returns : goal.returns
returns c = refusal_known
