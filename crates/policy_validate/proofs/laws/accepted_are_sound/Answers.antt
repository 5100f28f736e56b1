use Rattle.policy_validate.proofs.OwnConditions.{accepted_sound}
use Rattle.policy_validate.proofs.laws.accepted_are_sound.Goals as goal

pub returns : goal.returns
returns c = accepted_sound c.accepted_are_typed.ensures c.typed_are_sound.ensures
