use Rattle.std.proofs.Common.{sym, true}
use Rattle.policy_values.proofs.Back.{step_added, added_here, added_first, keys_added}
use Rattle.policy_values.proofs.reverse.add_step.Goals as goal

pub returns-in-Some-clause-leads : goal.returns-in-Some-clause-leads
returns-in-Some-clause-leads g c =
    let same = g.met.K.Key.copies c.args.to.now c.in_ok-clone.field-0 c.in_ok-clone.ensures.cases in
    step_added g.met.K.Key.exact c.args.steps.now.entries (c.get_mut.follows.lender c.insert.new.self).entries c.args.from.now c.args.to.now c.insert.new.self
    ((c.get_mut.follows.holds c.insert.new.self).3 (rw (sym c.in-Some.ensures.value) (λ i. true))).0
    (added_here g.K.Ord.cmp c.args.steps.now.entries c.args.from.now c.args.to.now c.in-Some.next.now c.insert.new.self (sym c.in-Some.ensures.value) (λ q. rw same at (c.in_ok-insert.ensures.updates.0 q)))

pub returns-clause-keys : goal.returns-clause-keys
returns-clause-keys g c = λ q.
    let same = g.met.K.Key.copies c.args.from.now c.in_ok-clone-3.field-0 c.in_ok-clone-3.ensures.cases in
    keys_added g.K.Ord.cmp c.args.steps.now.entries c.insert-3.new.self.entries c.args.from.now c.insert-2.new.self q (rw (same, c.get_mut.follows.holds-at-none) at (c.in_ok-insert-3.ensures.updates.0 q))

pub returns-clause-leads : goal.returns-clause-leads
returns-clause-leads g c =
    let same_to = g.met.K.Key.copies c.args.to.now c.in_ok-clone-2.field-0 c.in_ok-clone-2.ensures.cases in
    let same_from = g.met.K.Key.copies c.args.from.now c.in_ok-clone-3.field-0 c.in_ok-clone-3.ensures.cases in
    step_added g.met.K.Key.exact c.args.steps.now.entries c.insert-3.new.self.entries c.args.from.now c.args.to.now c.insert-2.new.self
    (λ q. rw (same_from, c.get_mut.follows.holds-at-none) at (c.in_ok-insert-3.ensures.updates.0 q))
    (added_first g.K.Ord.cmp c.args.steps.now.entries c.args.from.now c.args.to.now c.new-next.result c.insert-2.new.self (sym c.in_default.ensures.value) c.new-next.ensures.empty (λ q. rw same_to at (c.in_ok-insert-2.ensures.updates.0 q)))
