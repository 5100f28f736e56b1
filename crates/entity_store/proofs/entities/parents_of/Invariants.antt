use Rattle.std.proofs.Common.{take}
use Rattle.entity_store.specs.Linked.{links_of}
use Rattle.entity_store.proofs.Placed.{IsPlaced}
use Rattle.entity_store.proofs.entities.parents_of.Given as goal

abbrev pub invariant-loop-entity : goal.invariant-loop-entity
invariant-loop-entity l = IsPlaced links_of (take l.entity-index l.entities) l.parents.entries
