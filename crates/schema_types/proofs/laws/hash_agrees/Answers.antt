use Rattle.schema_types.specs.HashLaws.{alike_ty}
use Rattle.schema_types.proofs.laws.hash_agrees.Goals as goal

pub returns : goal.returns
returns c = alike_ty
