use Rattle.table_loader.proofs.PartialParents.{others_all}
use Rattle.table_loader.proofs.parent_laws.others_are_all.Goals as goal

pub returns : goal.returns
returns c = others_all
