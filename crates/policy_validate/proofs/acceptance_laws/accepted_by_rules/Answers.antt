use Rattle.policy_validate.proofs.Exact.{by_rules}
use Rattle.policy_validate.proofs.acceptance_laws.accepted_by_rules.Goals as goal

pub returns : goal.returns
returns c = by_rules c.check_is_exact.ensures c.statics_are_unlinked.ensures c.no_errors_where_accepted.ensures c.accepted_are_typed.ensures c.found_are_typed.ensures
