use Rattle.std.proofs.Common.{◌≡◌, take}
use Rattle.entity_store.specs.FromParents.{ids_of}
use Rattle.entity_store.proofs.entities.least_repeated_id.Given as goal

abbrev pub invariant-loop-entity : goal.invariant-loop-entity
invariant-loop-entity l = l.ids.items ≡ ids_of (take l.entity-index l.entities)
