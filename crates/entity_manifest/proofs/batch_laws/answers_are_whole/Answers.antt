use Rattle.entity_manifest.proofs.KnownText.{are_whole}
use Rattle.entity_manifest.proofs.batch_laws.answers_are_whole.Goals as goal

pub returns : goal.returns
returns c = are_whole
