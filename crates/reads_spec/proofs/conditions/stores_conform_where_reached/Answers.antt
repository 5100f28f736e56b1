use Rattle.reads_spec.proofs.Reaching.{conform_where_reached}
use Rattle.reads_spec.proofs.conditions.stores_conform_where_reached.Goals as goal

pub returns : goal.returns
returns c = conform_where_reached
