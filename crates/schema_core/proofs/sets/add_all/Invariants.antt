use Rattle.schema_core.proofs.Filled.{IsAdded}
use Rattle.schema_core.proofs.sets.add_all.Given as goal

abbrev pub invariant-loop-key : goal.invariant-loop-key
invariant-loop-key g l = IsAdded g.K.Ord.cmp l.initial.set.keys l.keys.keys l.set.keys l.key-iterator
