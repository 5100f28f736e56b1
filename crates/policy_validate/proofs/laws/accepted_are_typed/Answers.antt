use Rattle.policy_validate.proofs.OwnConditions.{accepted_typed}
use Rattle.policy_validate.proofs.laws.accepted_are_typed.Goals as goal

pub returns : goal.returns
returns c = accepted_typed c.statics_are_typed.ensures c.links_are_typed.ensures
