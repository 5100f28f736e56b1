use Rattle.manifest_computation.proofs.Covering.{enough}
use Rattle.manifest_computation.proofs.slice_laws.slices_are_enough.Goals as goal

pub returns : goal.returns
returns c = enough c.policies_are_covered.ensures c.typed_everywhere.ensures c.accepted_are_typed.ensures c.accepted_are_sound.ensures
