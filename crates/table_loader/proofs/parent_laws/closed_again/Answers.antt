use Rattle.table_loader.proofs.PartialParents.{closed_twice}
use Rattle.table_loader.proofs.parent_laws.closed_again.Goals as goal

pub returns : goal.returns
returns c = closed_twice
