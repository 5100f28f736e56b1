use Rattle.typecheck_rules.proofs.Truths.{findings_true}
use Rattle.typecheck_rules.proofs.laws.findings_are_true.Goals as goal

pub returns : goal.returns
returns c = findings_true
