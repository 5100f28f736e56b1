use Rattle.entity_files.proofs.Made.{computed_is_made}
use Rattle.entity_files.proofs.laws.computed_is_made.Goals as goal

pub returns : goal.returns
returns c = computed_is_made
