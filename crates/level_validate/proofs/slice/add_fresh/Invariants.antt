use Rattle.std.proofs.Common.{map}
use Rattle.std.specs.Map.Iter.{deref}
use Rattle.std.specs.Vec.Iter.{into_iter_items}
use Rattle.policy_values.specs.declared.entity_uid.EntityUID.{EntityUID}
use Rattle.level_validate.proofs.Growing.{AreAdded}
use Rattle.level_validate.proofs.slice.add_fresh.Given as goal

abbrev pub invariant-loop-uid : goal.invariant-loop-uid
invariant-loop-uid l =
    AreAdded l.fn.reached.keys (map (deref {X = EntityUID}) l.fn.ids.items) (map (deref {X = EntityUID}) (into_iter_items l.uid-iterator)) l.reached.keys (map (deref {X = EntityUID}) l.fresh.items)
