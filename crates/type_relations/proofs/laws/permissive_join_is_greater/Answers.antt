use Rattle.type_relations.proofs.PermissiveLaws.{permissive_greater}
use Rattle.type_relations.proofs.laws.permissive_join_is_greater.Goals as goal

pub returns : goal.returns
returns c = permissive_greater
