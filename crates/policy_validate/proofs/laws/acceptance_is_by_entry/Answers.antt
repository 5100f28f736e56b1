use Rattle.policy_validate.proofs.Entries.{by_entry}
use Rattle.policy_validate.proofs.laws.acceptance_is_by_entry.Goals as goal

pub returns : goal.returns
returns c = by_entry
