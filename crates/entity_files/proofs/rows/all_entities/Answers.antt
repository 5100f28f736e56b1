use Rattle.std.proofs.Common.{subst}
use Rattle.sqlite.specs.Held.{state}
use Rattle.entity_files.specs.Table.{AreAllCells}
use Rattle.entity_files.specs.Rows.{AreAll, AreAllShown}
use Rattle.entity_files.proofs.AllRows.{of_shown, to_shown}
use Rattle.entity_files.proofs.Lookups.{reported_of}
use Rattle.entity_files.proofs.Right.{database_right, right_as}
use Rattle.entity_files.proofs.rows.all_entities.Goals as goal

pub returns-in-Ok-clause-read : goal.returns-in-Ok-clause-read
returns-in-Ok-clause-read g c rows told =
    let now = reported_of (state g.S.Store c.select_all.new.conn) rows told in
    let cells = subst (λ table. AreAllCells table c.in-Ok.rows.items) now.1 (c.in-Ok.ensures.honest now.0) in
    right_as (AreAllShown c.in-Ok.rows.items) (AreAll rows) (of_shown rows c.in-Ok.rows.items cells) (to_shown rows c.in-Ok.rows.items cells) c.store_of_rows.result c.store_of_rows.ensures

pub returns-in-Err-clause-read : goal.returns-in-Err-clause-read
returns-in-Err-clause-read g c rows told = database_right (AreAll rows) c.database_error.result c.database_error.ensures
