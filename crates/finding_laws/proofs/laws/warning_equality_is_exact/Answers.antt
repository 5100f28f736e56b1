use Rattle.finding_laws.proofs.Findings.{warnings}
use Rattle.finding_laws.proofs.laws.warning_equality_is_exact.Goals as goal

pub returns : goal.returns
returns c = warnings
