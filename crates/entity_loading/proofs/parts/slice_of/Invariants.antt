use Rattle.entity_loading.specs.Kept.{with_names}
use Rattle.entity_loading.proofs.PartSteps.{IsParting}
use Rattle.entity_loading.proofs.parts.slice_of.Given as goal

abbrev pub invariant-loop-entity : goal.invariant-loop-entity
invariant-loop-entity l = IsParting (with_names l.nodes l.numbers l.named) l.slice l.entity-iterator l.entities
