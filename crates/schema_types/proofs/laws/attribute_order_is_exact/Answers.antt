use Rattle.schema_types.proofs.OrderLaws.{exact_attributes}
use Rattle.schema_types.proofs.laws.attribute_order_is_exact.Goals as goal

pub returns : goal.returns
returns c = exact_attributes
