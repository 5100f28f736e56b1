use Rattle.sqlite.specs.Held.{state}
use Rattle.entity_files.specs.Table.{IsReady}
use Rattle.entity_files.proofs.writing.missing_ones.Given as goal

abbrev pub invariant-loop-entity : goal.invariant-loop-entity
invariant-loop-entity g l = IsReady (state g.S.Store l.conn)
