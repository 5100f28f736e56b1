use Rattle.condition_truth.proofs.Outlined.{outline_decides}
use Rattle.condition_truth.proofs.laws.outline_decides.Goals as goal

pub returns : goal.returns
returns c = outline_decides c.typing_is_sound.ensures c.typed_has_its_type.ensures
