use Rattle.entity_manifest.proofs.Conforming.{nothing_is_blocked}
use Rattle.entity_manifest.proofs.laws.nothing_is_blocked.Goals as goal

pub returns : goal.returns
returns c = nothing_is_blocked
