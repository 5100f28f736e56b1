use Rattle.std.proofs.Common.{length}
use Rattle.entity_loading.proofs.KeepSteps.{IsKeeping}
use Rattle.entity_loading.proofs.keeping.keep_all.Given as goal

abbrev pub invariant-loop-uid : goal.invariant-loop-uid
invariant-loop-uid l = IsKeeping l.fn.kept l.fn.found l.kept l.found

abbrev pub decreases-loop-uid : goal.decreases-loop-uid
decreases-loop-uid l = length l.found.entries
