use Rattle.schema_core.proofs.Held.{plain_held}
use Rattle.schema_core.proofs.laws.held_types_are_plain.Goals as goal

pub returns : goal.returns
returns c = plain_held
