use Rattle.table_loader.proofs.SameLookups.{their_lookups}
use Rattle.table_loader.proofs.order_laws.fields_are_their_lookups.Goals as goal

pub returns : goal.returns
returns c = their_lookups
