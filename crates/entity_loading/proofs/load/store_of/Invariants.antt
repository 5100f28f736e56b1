use Rattle.std.proofs.Common.{length}
use Rattle.entity_loading.proofs.StoreSteps.{IsFilling}
use Rattle.entity_loading.proofs.load.store_of.Given as goal

abbrev pub invariant-loop-uid : goal.invariant-loop-uid
invariant-loop-uid l = IsFilling l.fn.kept l.kept l.store

abbrev pub decreases-loop-uid : goal.decreases-loop-uid
decreases-loop-uid l = length l.kept.entries
