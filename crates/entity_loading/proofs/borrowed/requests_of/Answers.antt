use Rattle.entity_loading.proofs.BorrowSteps.{requests_ascend}
use Rattle.entity_loading.proofs.borrowed.requests_of.Goals as goal

pub returns-clause-ascending : goal.returns-clause-ascending
returns-clause-ascending c = requests_ascend c.args.nodes.now c.args.borrowed.now.entries c.loop-uid.uid-iterator c.loop-uid.requests.items c.in-None.ensures.steps.0 c.loop-uid.invariant c.iter-uid-items.ensures.ordered
