use Rattle.std.proofs.Common.{take, ◌<◌, ℕ}
use Rattle.policy_values.specs.Repeated.{StandsEarlier}
use Rattle.policy_values.proofs.Seen.{IsSeen}
use Rattle.policy_values.proofs.repeats.first_repeated.Given as goal

abbrev pub invariant-loop-i : goal.invariant-loop-i
invariant-loop-i g l = record {
  seen : IsSeen g.K.Ord.cmp (take l.i l.keys) l.seen.keys;
  before : (j : ℕ) → j < l.i → ¬ StandsEarlier l.keys j;
}
