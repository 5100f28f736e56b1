use Rattle.entity_manifest.proofs.HonestLoading.{honest_succeeds}
use Rattle.entity_manifest.proofs.laws.honest_loading_succeeds.Goals as goal

pub returns : goal.returns
returns c = honest_succeeds
