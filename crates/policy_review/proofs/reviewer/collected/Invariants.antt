use Rattle.std.proofs.Common.{◌≡◌, ◌++◌, map}
use Rattle.policy_review.specs.Found.{level_at}
use Rattle.policy_review.proofs.reviewer.collected.Given as goal

-- those so far, and then those that are left
abbrev pub invariant-loop-policy_id : goal.invariant-loop-policy_id
invariant-loop-policy_id l = l.collected.items ++ map level_at l.policy_id-iterator ≡ map level_at l.fn.levels.entries
