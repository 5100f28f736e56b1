use Rattle.typing_spec.proofs.SameKnown.{what_is_known_decides}
use Rattle.typing_spec.proofs.laws.what_is_known_decides.Goals as goal

pub returns : goal.returns
returns c = what_is_known_decides
