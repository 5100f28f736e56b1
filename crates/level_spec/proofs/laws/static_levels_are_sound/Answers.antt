use Rattle.level_spec.proofs.Policing.{static_levels}
use Rattle.level_spec.proofs.laws.static_levels_are_sound.Goals as goal

pub returns : goal.returns
returns c = static_levels c.levels_are_sound.ensures
