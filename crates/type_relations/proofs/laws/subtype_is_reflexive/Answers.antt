use Rattle.type_relations.proofs.SubtypeLaws.{subtype_refl}
use Rattle.type_relations.proofs.laws.subtype_is_reflexive.Goals as goal

pub returns : goal.returns
returns c = subtype_refl
