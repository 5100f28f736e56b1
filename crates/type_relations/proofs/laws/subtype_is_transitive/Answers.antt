use Rattle.type_relations.proofs.SubtypeLaws.{subtype_trans}
use Rattle.type_relations.proofs.laws.subtype_is_transitive.Goals as goal

pub returns : goal.returns
returns c = subtype_trans
