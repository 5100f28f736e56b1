use Rattle.typing_spec.proofs.Booleans.{never_true}
use Rattle.typing_spec.proofs.laws.false_is_never_true.Goals as goal

pub returns : goal.returns
returns c = never_true
