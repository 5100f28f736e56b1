use Rattle.std.proofs.Common.{vec_len}
use Rattle.manifest_core.proofs.Filling.{IsFilled}
use Rattle.manifest_core.proofs.read.typed_tries.Given as goal

abbrev pub invariant-loop-entry : goal.invariant-loop-entry
invariant-loop-entry l = IsFilled l.schema l.fn.entries.items l.left.items l.tries.entries

abbrev pub decreases-loop-entry : goal.decreases-loop-entry
decreases-loop-entry l = vec_len l.left
