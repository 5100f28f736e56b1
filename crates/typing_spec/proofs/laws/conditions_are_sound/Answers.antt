use Rattle.typing_spec.proofs.Condition.{conditions_are_sound}
use Rattle.typing_spec.proofs.laws.conditions_are_sound.Goals as goal

pub returns : goal.returns
returns c = conditions_are_sound
