use Rattle.table_loader.proofs.PartialStores.{whole_entities}
use Rattle.table_loader.proofs.parent_laws.entities_are_whole.Goals as goal

pub returns : goal.returns
returns c = whole_entities
