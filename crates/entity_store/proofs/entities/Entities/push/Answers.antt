use Rattle.entity_store.proofs.Stored.{stored_put, pushed_last}
use Rattle.entity_store.proofs.entities.Entities.push.Goals as goal

pub invariant_of-self-2 : goal.invariant_of-self-2
invariant_of-self-2 c =
    stored_put c.self.inside.entities c.insert.new.self c.args.entity c.self.invariant (rw (c.in_ok-uid.ensures.uid, c.in_ok-uid.ensures.entity) at c.in_ok-insert.ensures.entries) c.in_ok-insert.ensures.ordered c.in_ok-uid.ensures.ascending

pub returns-clause-ok : goal.returns-clause-ok
returns-clause-ok c =
    rw (← c.self.view_is)
    (pushed_last c.self.inside.entities c.insert.new.self c.args.entity c.self.invariant (rw (c.in_ok-uid.ensures.uid, c.in_ok-uid.ensures.entity) at c.in_ok-insert.ensures.entries) (rw c.self.view_is c.requires))
