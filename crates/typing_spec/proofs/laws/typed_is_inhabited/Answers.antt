use Rattle.typing_spec.proofs.Tests.{typed_is_inhabited}
use Rattle.typing_spec.proofs.laws.typed_is_inhabited.Goals as goal

pub returns : goal.returns
returns c = typed_is_inhabited
