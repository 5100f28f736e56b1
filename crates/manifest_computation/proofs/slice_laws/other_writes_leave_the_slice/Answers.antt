use Rattle.manifest_computation.proofs.Alike.{leave_the_slice}
use Rattle.manifest_computation.proofs.slice_laws.other_writes_leave_the_slice.Goals as goal

pub returns : goal.returns
returns c = leave_the_slice
