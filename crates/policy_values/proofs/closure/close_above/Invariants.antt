use Rattle.std.proofs.Common.{List}
use Rattle.policy_values.specs.ClosureSteps.{AreReached, AreWhole, IsPartlyClosed}
use Rattle.policy_values.proofs.closure.close_above.Given as goal

abbrev pub invariant-loop-key : goal.invariant-loop-key
invariant-loop-key g l = record {
  closed : (left : List g.row.K.Denot) → IsPartlyClosed g.K.Ord.cmp l.steps.entries l.fn.closed.entries left → IsPartlyClosed g.K.Ord.cmp l.steps.entries l.closed.entries left;
  whole : AreWhole g.K.Ord.cmp l.steps.entries l.closed.entries;
  known : AreReached g.K.Ord.cmp l.steps.entries l.known.entries;
}
