use Rattle.finding_laws.proofs.Findings.{errors}
use Rattle.finding_laws.proofs.laws.error_equality_is_exact.Goals as goal

pub returns : goal.returns
returns c = errors
