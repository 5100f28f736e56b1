use Rattle.sqlite.specs.Held.{state}
use Rattle.entity_files.specs.Table.{IsReady, Continues}
use Rattle.entity_files.specs.Fetched.{AreFetched}
use Rattle.entity_files.specs.Rows.{known_entities}
use Rattle.directory_service.proofs.row_decisions.fetch_upward.Given as goal

abbrev pub invariant-loop-step : goal.invariant-loop-step
invariant-loop-step g l = record {
  ready : IsReady (state g.S.Store l.conn);
  goes_on : Continues (known_entities (state g.S.Store l.initial.conn)) (known_entities (state g.S.Store l.conn));
  fetched : AreFetched (known_entities (state g.S.Store l.conn)) l.fetched;
}
