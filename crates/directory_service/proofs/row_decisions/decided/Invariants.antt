use Rattle.sqlite.specs.Held.{state}
use Rattle.entity_files.specs.Table.{IsReady, Continues}
use Rattle.entity_files.specs.Fetched.{AreFetched}
use Rattle.entity_files.specs.Rows.{known_entities}
use Rattle.directory_service.proofs.row_decisions.decided.Given as goal

abbrev pub invariant-loop-round : goal.invariant-loop-round
invariant-loop-round g l = record {
  ready : IsReady (state g.S.Store l.conn);
  goes_on : Continues (known_entities (state g.S.Store l.initial.conn)) (known_entities (state g.S.Store l.conn));
  fetched : AreFetched (known_entities (state g.S.Store l.conn)) l.fetched;
}
