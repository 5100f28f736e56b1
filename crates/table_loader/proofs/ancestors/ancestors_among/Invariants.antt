use Rattle.std.proofs.Common.{◌≡◌, take}
use Rattle.std.specs.Prelude.{Some}
use Rattle.table_loader.specs.RowsState.{RowsContinue}
use Rattle.table_loader.specs.Tables.{Tables}
use Rattle.table_loader.specs.Asking.{AreFound}
use Rattle.table_loader.proofs.ancestors.ancestors_among.Given as goal

abbrev pub invariant-loop-id : goal.invariant-loop-id
invariant-loop-id g l = record {
  goes_on : RowsContinue (g.R.Rows.state l.fn.rows) (g.R.Rows.state l.rows);
  found : (t : Tables) → (g.R.Rows.state l.rows).known ≡ Some t → AreFound t l.uid (take l.id-index l.ids) l.found.items;
}
