use Rattle.std.proofs.Common.{arith, sym, ◌∙◌}
use Rattle.std.specs.Vec.Iter.{into_iter_items}
use Rattle.std.proofs.lemmas.Bool.{not-true, not-false}
use Rattle.std.proofs.lemmas.List.{nil_from_length}
use Rattle.schema_core.proofs.Firsts.{firsts_none, firsts_new, firsts_again, firsts_all}
use Rattle.schema_core.proofs.sets.firsts_of.Goals as goal

pub loop-eid-init : goal.loop-eid-init
loop-eid-init c = rw (c.new-kept.ensures.items, c.into_iter-eid-iterator.ensures.into_iter_gives.0) (firsts_none c.args.eids.items c.new-seen.result.keys c.new-seen.ensures.empty c.new-seen.ensures.ordered)

pub loop-eid-preserved-in_ok-push : goal.loop-eid-preserved-in_ok-push
loop-eid-preserved-in_ok-push c =
    let same = c.in_ok-try_clone.ensures in
    rw c.in_ok-push.ensures.items
    (firsts_new c.args.eids.items (into_iter_items c.loop-eid.eid-iterator) (into_iter_items c.next.new.self) c.loop-eid.kept.items c.loop-eid.seen.keys c.insert.new.self.keys c.in-Some.eid c.loop-eid.invariant c.in-Some.ensures.steps.0 c.in_ok-insert.ensures.ordered
    (λ q. rw same at (c.in_ok-insert.ensures.updates.0 q)) (rw same at (not-true _ (sym c.in_ok-insert.ensures.added ∙ c.if-branch.true))))

pub loop-eid-preserved : goal.loop-eid-preserved
loop-eid-preserved c =
    let same = c.in_ok-try_clone.ensures in
    firsts_again c.args.eids.items (into_iter_items c.loop-eid.eid-iterator) (into_iter_items c.next.new.self) c.loop-eid.kept.items c.loop-eid.seen.keys c.insert.new.self.keys c.in-Some.eid c.loop-eid.invariant c.in-Some.ensures.steps.0 c.in_ok-insert.ensures.ordered
    (λ q. rw same at (c.in_ok-insert.ensures.updates.0 q)) (rw same at (not-false _ (sym c.in_ok-insert.ensures.added ∙ c.if-branch.false)))

pub returns : goal.returns
returns c = c.new.ensures ∙ firsts_all c.args.eids.items _ c.loop-eid.kept.items c.loop-eid.seen.keys c.loop-eid.invariant (nil_from_length _ (omega (arith, c.in-None.ensures.steps.0)))
