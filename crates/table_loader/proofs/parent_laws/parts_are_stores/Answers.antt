use Rattle.table_loader.proofs.PartialParents.{no_cycles}
use Rattle.table_loader.proofs.parent_laws.parts_are_stores.Goals as goal

pub returns : goal.returns
returns c = no_cycles
