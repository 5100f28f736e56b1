use Rattle.policy_validate.proofs.Entries.{findings_by_entry}
use Rattle.policy_validate.proofs.laws.findings_are_by_entry.Goals as goal

pub returns : goal.returns
returns c = findings_by_entry
