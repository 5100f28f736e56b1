use Rattle.table_loader.proofs.PartialStores.{right_stores}
use Rattle.table_loader.proofs.parent_laws.parts_are_right_stores.Goals as goal

pub returns : goal.returns
returns c = right_stores
