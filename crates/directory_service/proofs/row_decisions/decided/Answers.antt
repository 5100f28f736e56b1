use Rattle.sqlite.specs.Held.{state}
use Rattle.entity_files.specs.Rows.{known_entities}
use Rattle.directory_service.proofs.row_decisions.decided.Goals as goal

pub loop-round-init : goal.loop-round-init
loop-round-init g c = record {
  ready = c.requires.ready;
  goes_on = λ w told. told;
  fetched = c.new-fetched.ensures (known_entities (state g.S.Store c.args.conn.now));
}
