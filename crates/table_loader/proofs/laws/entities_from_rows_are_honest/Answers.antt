use Rattle.table_loader.proofs.FromRows.{honest}
use Rattle.table_loader.proofs.laws.entities_from_rows_are_honest.Goals as goal

pub returns : goal.returns
returns c = honest
