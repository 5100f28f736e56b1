use Rattle.std.proofs.Common.{take}
use Rattle.std.specs.Option.{option_copied}
use Rattle.policy_values.specs.Least.{IsLeastIfAny}
use Rattle.policy_values.specs.Repeated.{IsRepeated}
use Rattle.policy_values.proofs.Seen.{IsSeen}
use Rattle.policy_values.proofs.repeats.least_repeated.Given as goal

abbrev pub invariant-loop-key : goal.invariant-loop-key
invariant-loop-key g l = record {
  seen : IsSeen g.K.Ord.cmp (take l.key-index l.keys) l.seen.keys;
  least : IsLeastIfAny g.K.Ord.cmp (IsRepeated (take l.key-index l.keys)) (option_copied l.least);
}
