use Rattle.policy_validate.proofs.NoErrors.{no_errors}
use Rattle.policy_validate.proofs.laws.no_errors_where_accepted.Goals as goal

pub returns : goal.returns
returns c = no_errors c.check_is_exact.ensures c.refusals_are_reported.ensures
