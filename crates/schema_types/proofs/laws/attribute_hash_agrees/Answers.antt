use Rattle.schema_types.proofs.OrderLaws.{alike_attribute}
use Rattle.schema_types.proofs.laws.attribute_hash_agrees.Goals as goal

pub returns : goal.returns
returns c = alike_attribute
