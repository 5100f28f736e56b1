use Rattle.std.proofs.Common.{arith}
use Rattle.policy_values.specs.Reaches.{leads}
use Rattle.policy_values.proofs.Search.{search_first, search_more, search_end, search_bound}
use Rattle.policy_values.proofs.reach.reached_from.Goals as goal

pub loop-key-init : goal.loop-key-init
loop-key-init g c = search_first g.met.K.Ord.total g.met.K.Key.exact c.args.steps.now.entries c.args.from.now c.args.start.keys _ _ c.requires c.in_ok-visit.ensures.ordered
    c.in_ok-visit.ensures.added
    (λ q. rw c.new-waiting.ensures.items at (c.in_ok-visit.ensures.waits q))

pub loop-key-preserved : goal.loop-key-preserved
loop-key-preserved g c = search_more g.met.K.Ord.total g.met.K.Key.exact (leads g.K.Ord.cmp c.args.steps.now.entries) c.args.from.now c.in-Some.key _ _ _ _ _ c.loop-key.invariant
    c.in-Some.ensures.items c.in_ok-visit-2.ensures.ordered c.in_ok-visit-2.ensures.added c.in_ok-visit-2.ensures.waits

pub loop-key-smaller : goal.loop-key-smaller
loop-key-smaller g c =
    let bound = search_bound g.met.K.Ord.total g.met.K.Key.exact c.args.steps.now.entries c.args.from.now _ _ (loop-key-preserved g c) in
    omega (arith, bound, c.in_ok-visit-2.ensures.count, c.in-Some.ensures.len)

pub returns-clause-reached : goal.returns-clause-reached
returns-clause-reached g c = search_end g.met.K.Ord.total g.met.K.Key.exact c.args.steps.now.entries c.args.from.now c.loop-key.reached _ c.loop-key.invariant (omega (arith, c.in_default.ensures.cases.0))
