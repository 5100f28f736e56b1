use Rattle.type_relations.proofs.JoinLaws.{join_above}
use Rattle.type_relations.proofs.laws.join_is_above.Goals as goal

pub returns : goal.returns
returns c = join_above
