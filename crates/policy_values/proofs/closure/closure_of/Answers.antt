use Rattle.std.proofs.Common.{sym, ◌∙◌}
use Rattle.policy_values.proofs.Closed.{closed_none, closed_all, closed_next, closed_there}
use Rattle.policy_values.proofs.Known.{known_none}
use Rattle.policy_values.proofs.closure.closure_of.Goals as goal

pub loop-key-init : goal.loop-key-init
loop-key-init g c = rw (c.new-closed.ensures.empty, c.new-known.ensures.empty) (record {
  closed = rw c.into_iter-key-iterator.ensures.into_iter_gives.0 (closed_none g.K.Ord.cmp c.args.steps.now.entries);
  known = known_none g.K.Ord.cmp c.args.steps.now.entries;
})

pub loop-key-preserved-in-Continue-branch-2 : goal.loop-key-preserved-in-Continue-branch-2
loop-key-preserved-in-Continue-branch-2 g c = record {
  closed = closed_next g.met.K.Ord.total g.met.K.Key.exact c.args.steps.now.entries _ _ c.in-Some.key.now _ c.in_ok-close.ensures.added c.in_ok-close.ensures.closed
      (c.in_ok-close_above.ensures.closed _ (rw c.in-Some.ensures.steps at c.loop-key.invariant.closed));
  known = c.in_ok-close.ensures.known;
}

pub loop-key-preserved : goal.loop-key-preserved
loop-key-preserved g c = record {
  closed = closed_there g.met.K.Ord.total g.met.K.Key.exact c.args.steps.now.entries _ c.in-Some.key.now _ (rw c.in-Some.ensures.steps at c.loop-key.invariant.closed) (sym c.contains_key.ensures ∙ c.if-not-contains_key.false);
  known = c.loop-key.invariant.known;
}

pub returns : goal.returns
returns g c = closed_all g.met.K.Ord.total g.met.K.Key.exact c.args.steps.now.entries c.loop-key.closed.entries (rw c.in-None.ensures.steps.0 at c.loop-key.invariant.closed)
