use Rattle.schema_core.proofs.Held.{plain_all_held}
use Rattle.schema_core.proofs.laws.held_attributes_are_plain.Goals as goal

pub returns : goal.returns
returns c = plain_all_held
