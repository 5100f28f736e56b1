use Rattle.entity_loading.specs.Kept.{along_nodes}
use Rattle.entity_loading.proofs.PartSteps.{IsKeeping}
use Rattle.entity_loading.proofs.parts.parts_of.Given as goal

abbrev pub invariant-loop-entity : goal.invariant-loop-entity
invariant-loop-entity l = IsKeeping (along_nodes l.nodes l.numbers) l.kept l.entity-iterator l.entities
