use Rattle.entity_loading.proofs.BorrowSteps.{lends}
use Rattle.entity_loading.proofs.borrowed.lend.Goals as goal

pub returns : goal.returns
returns c =
    lends c.args.nodes.now c.args.place.now c.args.borrowed.now c.remove-known.new.self c.insert.new.self c.remove-known.result c.in_ok-with.with
    c.remove-known.ensures.value c.remove-known.ensures.updates.0 (rw c.in_ok-try_clone.ensures at c.in_ok-insert.ensures.updates.0) c.in_ok-with.ensures
