use Rattle.policy_validate.proofs.LevelsSound.{levels_sound}
use Rattle.policy_validate.proofs.laws.accepted_levels_are_sound.Goals as goal

pub returns : goal.returns
returns c = levels_sound c.static_levels_are_sound.ensures c.link_levels_are_sound.ensures
