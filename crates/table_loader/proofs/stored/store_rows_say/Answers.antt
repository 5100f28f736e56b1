use Rattle.table_loader.proofs.Ordered.{rows_say}
use Rattle.table_loader.proofs.stored.store_rows_say.Goals as goal

pub returns : goal.returns
returns c =
    let s = c.args.entities.now in
    rows_say s (c.tables_of_stores_stand_for_them.ensures s c.iter-entities.ensures.ascending).store c.iter-entities.ensures.ascending c.entities_are_ordered.ensures
