use Rattle.std.proofs.Common.{[]}
use Rattle.std.specs.Vec.Iter.{into_iter_items}
use Rattle.schema_core.proofs.Filled.{IsAdded}
use Rattle.schema_core.proofs.sets.set_of.Given as goal

abbrev pub invariant-loop-key : goal.invariant-loop-key
invariant-loop-key g l = IsAdded g.K.Ord.cmp [] l.fn.keys.items l.set.keys (into_iter_items l.key-iterator)
