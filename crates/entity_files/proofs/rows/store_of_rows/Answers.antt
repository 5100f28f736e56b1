use Rattle.entity_files.proofs.AllRows.{shown_store}
use Rattle.entity_files.proofs.rows.store_of_rows.Goals as goal

pub returns-in-Ok : goal.returns-in-Ok
returns-in-Ok c = shown_store c.args.rows.items c.in-Ok.entities.items c.store_of.result c.in-Ok.ensures c.store_of.ensures
