use Rattle.entity_loading.proofs.BorrowSteps.{IsBorrowing}
use Rattle.entity_loading.proofs.borrowed.borrowed_tries.Given as goal

abbrev pub invariant-loop-place : goal.invariant-loop-place
invariant-loop-place l = IsBorrowing l.nodes l.places.keys l.place-iterator l.borrowed
