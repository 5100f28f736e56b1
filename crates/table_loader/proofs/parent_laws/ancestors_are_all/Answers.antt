use Rattle.table_loader.proofs.PartialParents.{ancestors_all}
use Rattle.table_loader.proofs.parent_laws.ancestors_are_all.Goals as goal

pub returns : goal.returns
returns c = ancestors_all
