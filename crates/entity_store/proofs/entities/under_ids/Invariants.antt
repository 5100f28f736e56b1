use Rattle.std.specs.Vec.Iter.{into_iter_items}
use Rattle.entity_store.proofs.Placed.{IsFilled}
use Rattle.entity_store.proofs.entities.under_ids.Given as goal

abbrev pub invariant-loop-entity : goal.invariant-loop-entity
invariant-loop-entity l = IsFilled l.fn.entities.items l.yielded (into_iter_items l.entity-iterator) l.placed
