use Rattle.table_loader.proofs.Ordered.{known_ordered}
use Rattle.table_loader.proofs.laws.known_stores_are_ordered.Goals as goal

pub returns : goal.returns
returns c = known_ordered
