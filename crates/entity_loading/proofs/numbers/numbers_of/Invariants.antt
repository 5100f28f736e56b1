use Rattle.entity_loading.proofs.SliceKeptSteps.{IsGrouping}
use Rattle.entity_loading.proofs.numbers.numbers_of.Given as goal

abbrev pub invariant-loop-place : goal.invariant-loop-place
invariant-loop-place l = IsGrouping l.places.keys l.place-iterator l.numbers
