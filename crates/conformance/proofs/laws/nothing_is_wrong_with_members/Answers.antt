use Rattle.conformance.proofs.Members.{nothing_wrong}
use Rattle.conformance.proofs.laws.nothing_is_wrong_with_members.Goals as goal

pub returns : goal.returns
returns c = nothing_wrong
