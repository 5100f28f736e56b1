use Rattle.std.proofs.Common.{sym}
use Rattle.policy_values.proofs.Closed.{closed_more}
use Rattle.policy_values.proofs.closure.close_above.Goals.{in-Some+in_ok-close, in_default}
use Rattle.policy_values.proofs.closure.close_above.Goals as goal

pub loop-key-preserved : goal.loop-key-preserved
loop-key-preserved g c = elim c.match-get.branch [
  | in-Some+in_ok-close w ↦ rw (w.closed-is, w.known-is) (record {
    closed = λ left p. closed_more g.met.K.Ord.total g.met.K.Key.exact c.args.steps.now.entries _ _ _ _ left (sym w.in-Some.ensures.value) w.in_ok-close.ensures.added w.in_ok-close.ensures.closed (c.loop-key.invariant.closed left p);
    whole = w.in_ok-close.ensures.closed;
    known = w.in_ok-close.ensures.known;
  })
  | in_default w ↦ rw (w.closed-is, w.known-is) c.loop-key.invariant
]
