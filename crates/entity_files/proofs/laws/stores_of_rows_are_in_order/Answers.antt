use Rattle.entity_files.proofs.InOrder.{rows_in_order}
use Rattle.entity_files.proofs.laws.stores_of_rows_are_in_order.Goals as goal

pub returns : goal.returns
returns c = rows_in_order
