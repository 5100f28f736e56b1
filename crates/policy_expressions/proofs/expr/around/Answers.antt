use Rattle.policy_expressions.proofs.AroundSteps.{stands_around}
use Rattle.policy_expressions.proofs.expr.around.Goals as goal

pub invariant_of-result : goal.invariant_of-result
invariant_of-result g c =
    let h = c.e.invariant in
    let stands = stands_around c.args.values.now c.e.inside.kind c.args.kind c.e.inside.note c.in_ok-note.note c.e.inside.loc c.args.e.now c.e.inside.depth
    c.e.view_is c.requires c.in_ok-note.ensures (h.0, h.1, h.2) in
    (stands.0, stands.1, stands.2, c.slot_in-slotted.ensures)
