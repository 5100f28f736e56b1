use Rattle.std.proofs.Common.{sym, ◌∙◌}
use Rattle.std.proofs.lemmas.Bool.{not-true, not-false}
use Rattle.policy_values.proofs.Turns.{turn_new, turn_old}
use Rattle.policy_values.proofs.reach.visit.Goals as goal

pub loop-found-preserved-in_ok-push : goal.loop-found-preserved-in_ok-push
loop-found-preserved-in_ok-push g c =
    let same = g.met.K.Key.copies c.in-Some-found.found.now c.in_ok-clone.field-0 c.in_ok-clone.ensures.cases in
    let same2 = g.met.K.Key.copies c.in-Some-found.found.now c.in_ok-clone-2.field-0 c.in_ok-clone-2.ensures.cases in
    turn_new g.met.K.Ord.total g.met.K.Key.exact _ _ _ _ _ _ _ _ _ c.in-Some-found.found.now c.loop-found.invariant
    c.in-Some-found.ensures.steps
    (rw (← same) (not-true _ (sym c.in_ok-insert.ensures.added ∙ c.if-branch.true)))
    c.in_ok-insert.ensures.ordered
    (λ q. rw (← same) (c.in_ok-insert.ensures.updates.0 q))
    (rw c.if-branch.true at c.in_ok-insert.ensures.len)
    (rw (← same2) c.in_ok-push.ensures.items)

pub loop-found-preserved : goal.loop-found-preserved
loop-found-preserved g c =
    let same = g.met.K.Key.copies c.in-Some-found.found.now c.in_ok-clone.field-0 c.in_ok-clone.ensures.cases in
    turn_old g.met.K.Ord.total g.met.K.Key.exact _ _ _ _ _ _ _ _ c.in-Some-found.found.now c.loop-found.invariant
    c.in-Some-found.ensures.steps
    (rw (← same) (not-false _ (sym c.in_ok-insert.ensures.added ∙ c.if-branch.false)))
    (rw c.if-branch.false at c.in_ok-insert.ensures.unchanged)
