use Rattle.entity_store.proofs.Stored.{stored_put}
use Rattle.entity_store.proofs.entities.add.Goals as goal

pub returns-clause-stored : goal.returns-clause-stored
returns-clause-stored c =
    stored_put c.args.entities.now c.insert.new.self c.args.entity c.requires (rw (c.in_ok-uid.ensures.uid, c.in_ok-uid.ensures.entity) at c.in_ok-insert.ensures.entries) c.in_ok-insert.ensures.ordered c.in_ok-uid.ensures.ascending
