use Rattle.link_spec.proofs.Checks.{conditions_follow}
use Rattle.link_spec.proofs.scope_laws.conditions_follow_scopes.Goals as goal

pub returns : goal.returns
returns c = conditions_follow
