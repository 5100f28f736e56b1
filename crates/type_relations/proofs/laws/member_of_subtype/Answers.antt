use Rattle.type_relations.proofs.MemberLaws.{member_sub}
use Rattle.type_relations.proofs.laws.member_of_subtype.Goals as goal

pub returns : goal.returns
returns c = member_sub
