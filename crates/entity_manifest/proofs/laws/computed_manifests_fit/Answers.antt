use Rattle.entity_manifest.proofs.HonestLoading.{manifests_fit}
use Rattle.entity_manifest.proofs.laws.computed_manifests_fit.Goals as goal

pub returns : goal.returns
returns c = manifests_fit
