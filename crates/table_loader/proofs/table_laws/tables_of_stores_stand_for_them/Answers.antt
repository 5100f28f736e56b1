use Rattle.table_loader.proofs.Written.{stand_for_them}
use Rattle.table_loader.proofs.table_laws.tables_of_stores_stand_for_them.Goals as goal

pub returns : goal.returns
returns c = stand_for_them
