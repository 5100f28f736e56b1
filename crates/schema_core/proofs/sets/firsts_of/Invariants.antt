use Rattle.std.specs.Vec.Iter.{into_iter_items}
use Rattle.schema_core.proofs.Firsts.{AreFirsts}
use Rattle.schema_core.proofs.sets.firsts_of.Given as goal

abbrev pub invariant-loop-eid : goal.invariant-loop-eid
invariant-loop-eid l = AreFirsts l.fn.eids.items (into_iter_items l.eid-iterator) l.kept.items l.seen.keys
