use Rattle.level_validate.proofs.Among.{AreKept}
use Rattle.level_validate.proofs.slice.entities_among.Given as goal

abbrev pub invariant-loop-entity : goal.invariant-loop-entity
invariant-loop-entity l = AreKept l.ids.keys l.kept l.entity-iterator l.entities
