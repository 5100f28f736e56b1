use Rattle.schema_types.proofs.OrderLaws.{exact}
use Rattle.schema_types.proofs.laws.order_is_exact.Goals as goal

pub returns : goal.returns
returns c = exact
