use Rattle.std.proofs.Common.{map}
use Rattle.std.specs.Map.Iter.{deref}
use Rattle.policy_compare.proofs.Owned.{IsGathering}
use Rattle.policy_compare.proofs.edit.own_policies.Given as goal

abbrev pub invariant-loop-policy : goal.invariant-loop-policy
invariant-loop-policy l = IsGathering l.others l.policies.policies l.policy-iterator (map deref l.own.items)
