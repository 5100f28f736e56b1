use Rattle.entity_manifest.proofs.Loaded.{loaded_enough}
use Rattle.entity_manifest.proofs.loading_laws.loaded_is_enough.Goals as goal

pub returns : goal.returns
returns c = loaded_enough c.slices_are_enough.ensures
