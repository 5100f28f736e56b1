use Rattle.schema_core.specs.Schema.{type_at}
use Rattle.schema_core.proofs.Held.{plain_type}
use Rattle.schema_core.proofs.laws.schema_types_are_plain.Goals as goal

pub returns : goal.returns
returns c = λ s is x. plain_type (type_at s x) (is.types.kinds x)
