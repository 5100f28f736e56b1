use Rattle.entity_manifest.proofs.Conforming.{nothing_blocks}
use Rattle.entity_manifest.proofs.laws.nothing_blocks.Goals as goal

pub returns : goal.returns
returns c = nothing_blocks
