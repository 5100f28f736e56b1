use Rattle.std.proofs.Common.{IfSome}
use Rattle.std.specs.Option.{option_copied}
use Rattle.policy_values.specs.ClosureSteps.{IsAtOneOf}
use Rattle.policy_values.proofs.closure.largest_of.Given as goal

abbrev pub invariant-loop-key : goal.invariant-loop-key
invariant-loop-key g l = IfSome (option_copied l.largest) (IsAtOneOf g.K.Ord.cmp l.closed.entries l.keys.keys)
