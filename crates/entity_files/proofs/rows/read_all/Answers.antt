use Rattle.std.proofs.Common.{◌≡◌, Some, Err, subst, arith}
use Rattle.entity_files.specs.Rows.{AreRead, IsRight, shown_entity}
use Rattle.entity_files.proofs.AllRows.{no_row}
use Rattle.entity_files.proofs.rows.read_all.Goals as goal

pub returns-in-Err : goal.returns-in-Err
returns-in-Err c =
    subst (λ cs. AreRead cs (Err c.in-Err.error)) c.deref-row-items.ensures.value
    (no_row c.deref-row-items.result.now c.loop-row.row-index c.row-item.result c.in-Err.error (omega (arith, c.loop-row-test.true, c.loop-row.auto.row-index-end)) c.row-item.is
    (subst (IsRight (λ f. shown_entity c.row-item.result ≡ Some f)) c.in-Err.is c.read_row.ensures))
