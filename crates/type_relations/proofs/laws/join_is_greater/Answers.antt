use Rattle.type_relations.proofs.GreaterLaws.{join_greater}
use Rattle.type_relations.proofs.laws.join_is_greater.Goals as goal

pub returns : goal.returns
returns c = join_greater
