use Rattle.std.specs.Option.{option_copied}
use Rattle.std.specs.Map.{keys_of}
use Rattle.policy_values.proofs.LeastOutside.{IsLeastSoFar}
use Rattle.policy_values.proofs.checks.least_outside.Given as goal

abbrev pub invariant-loop-set : goal.invariant-loop-set
invariant-loop-set g l = IsLeastSoFar g.A.Ord.cmp g.K.Ord.cmp l.steps.entries l.sets.entries (keys_of l.set-iterator) (option_copied l.least)
