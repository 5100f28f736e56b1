use Rattle.std.proofs.Common.{◌≡◌, false, Contains, is_some}
use Rattle.policy_values.specs.Reaches.{at}
use Rattle.policy_values.proofs.Least.{IsRest}
use Rattle.policy_values.proofs.checks.first_unlisted.Given as goal

abbrev pub invariant-loop-key : goal.invariant-loop-key
invariant-loop-key g l = IsRest g.K.Ord.cmp (λ q. (is_some (at g.K.Ord.cmp l.steps.entries q) ≡ false) × Contains l.next.keys q) l.key-iterator
