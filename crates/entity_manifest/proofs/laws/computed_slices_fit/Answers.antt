use Rattle.entity_manifest.proofs.HonestLoading.{slices_fit}
use Rattle.entity_manifest.proofs.laws.computed_slices_fit.Goals as goal

pub returns : goal.returns
returns c = slices_fit
