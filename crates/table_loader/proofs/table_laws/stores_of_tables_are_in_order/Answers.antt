use Rattle.table_loader.proofs.Stores.{in_order}
use Rattle.table_loader.proofs.table_laws.stores_of_tables_are_in_order.Goals as goal

pub returns : goal.returns
returns c = in_order
