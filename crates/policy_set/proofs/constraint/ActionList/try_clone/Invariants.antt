use Rattle.std.proofs.Common.{◌≡◌, take}
use Rattle.policy_set.proofs.constraint.ActionList.try_clone.Given as goal

abbrev pub invariant-loop-uid : goal.invariant-loop-uid
invariant-loop-uid l = l.uids.items ≡ take l.uid-index l.uid-items
