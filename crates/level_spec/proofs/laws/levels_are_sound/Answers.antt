use Rattle.level_spec.proofs.Sound.{levels_sound}
use Rattle.level_spec.proofs.laws.levels_are_sound.Goals as goal

pub returns : goal.returns
returns c = levels_sound
