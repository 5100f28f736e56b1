use Rattle.entity_files.proofs.Right.{conform}
use Rattle.entity_files.proofs.rows.check_rows.Goals as goal

pub returns-clause-checked : goal.returns-clause-checked
returns-clause-checked g c rows told = conform c.args.schema.now rows c.in_ok-entities.entities c.check_store.result (c.in_ok-entities.ensures.read rows told) c.check_store.ensures.right
