use Rattle.typing_spec.proofs.Notes.{marked}
use Rattle.typing_spec.proofs.laws.typed_has_its_type.Goals as goal

pub returns : goal.returns
returns c = marked
