use Rattle.std.specs.Map.{keys_of}
use Rattle.policy_values.specs.ClosureSteps.{AreReached, IsPartlyClosed}
use Rattle.policy_values.proofs.closure.closure_of.Given as goal

abbrev pub invariant-loop-key : goal.invariant-loop-key
invariant-loop-key g l = record {
  closed : IsPartlyClosed g.K.Ord.cmp l.steps.entries l.closed.entries (keys_of l.key-iterator);
  known : AreReached g.K.Ord.cmp l.steps.entries l.known.entries;
}
