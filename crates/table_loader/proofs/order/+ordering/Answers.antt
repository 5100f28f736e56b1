use Rattle.std.proofs.Common.{subst}
use Rattle.table_loader.proofs.Ordering.{IsLookingAt, at_end}
use Rattle.table_loader.proofs.order.+ordering.Goals as goal

pub fields_are_ordered-returns : goal.fields_are_ordered-returns
fields_are_ordered-returns t c =
    let es = c.args.fields.now.entries in
    at_end es c.len-count.ensures.ordered
    (subst (IsLookingAt es) c.in-None.ensures.steps.0 c.loop-key.invariant)
