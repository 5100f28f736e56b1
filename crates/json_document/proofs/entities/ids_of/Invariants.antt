use Rattle.std.proofs.Common.{◌≡◌, take}
use Rattle.entity_store.specs.FromParents.{ids_of}
use Rattle.json_document.proofs.entities.ids_of.Given as goal

abbrev pub invariant-loop-entity : goal.invariant-loop-entity
invariant-loop-entity l = l.ids.items ≡ ids_of (take l.entity-index l.entity-items)
