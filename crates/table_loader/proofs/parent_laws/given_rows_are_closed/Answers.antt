use Rattle.table_loader.proofs.PartialParents.{given_closed}
use Rattle.table_loader.proofs.parent_laws.given_rows_are_closed.Goals as goal

pub returns : goal.returns
returns c = given_closed
