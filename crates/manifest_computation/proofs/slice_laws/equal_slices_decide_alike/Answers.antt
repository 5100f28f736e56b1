use Rattle.manifest_computation.proofs.Alike.{decide_alike}
use Rattle.manifest_computation.proofs.slice_laws.equal_slices_decide_alike.Goals as goal

pub returns : goal.returns
returns c = decide_alike c.slices_are_enough.ensures
