use Rattle.typing_spec.proofs.Soundness.{typing_is_sound}
use Rattle.typing_spec.proofs.laws.typing_is_sound.Goals as goal

pub returns : goal.returns
returns c = typing_is_sound
