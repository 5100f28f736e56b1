use Rattle.std.proofs.Common.{◌≡◌, take, false}
use Rattle.std.specs.Prelude.{Some}
use Rattle.std.specs.List.{AllZip}
use Rattle.entity_loader.specs.Answers.{Fits, IsHonest}
use Rattle.table_loader.specs.TableLaws.{IsOrderedStore}
use Rattle.table_loader.specs.RowsState.{RowsContinue}
use Rattle.table_loader.specs.Tables.{Tables, store_of}
use Rattle.table_loader.proofs.entities.answers.Given as goal

abbrev pub invariant-loop-request : goal.invariant-loop-request
invariant-loop-request g l = record {
  goes_on : RowsContinue (g.R.Rows.state l.fn.rows) (g.R.Rows.state l.rows);
  fit : AllZip Fits (take l.request-index l.request-items) l.found.items;
  honest : (t : Tables) → (g.R.Rows.state l.rows).known ≡ Some t → IsOrderedStore (store_of t) →
      AllZip (IsHonest false (store_of t)) (take l.request-index l.request-items) l.found.items;
}
