use Rattle.std.proofs.Common.{◌≡◌, ◌++◌, map}
use Rattle.std.specs.Map.Iter.{deref}
use Rattle.std.specs.Vec.Iter.{into_iter_items}
use Rattle.policy_values.specs.declared.entity_uid.EntityUID.{EntityUID}
use Rattle.level_spec.specs.Hops.{held_by}
use Rattle.level_validate.proofs.held.held_by.Given as goal

-- the ids so far, and then those that the entities of what is left hold
abbrev pub invariant-loop-uid : goal.invariant-loop-uid
invariant-loop-uid l =
    map (deref {X = EntityUID}) l.held.items ++ held_by l.entities (map (deref {X = EntityUID}) (into_iter_items l.uid-iterator)) ≡ held_by l.entities (map (deref {X = EntityUID}) l.fn.ids.items)
