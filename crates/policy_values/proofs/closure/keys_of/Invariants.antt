use Rattle.std.proofs.Common.{◌≡◌, ◌++◌}
use Rattle.policy_values.proofs.closure.keys_of.Given as goal

-- the keys that are copied, and those that wait, are those of the set
abbrev pub invariant-loop-key : goal.invariant-loop-key
invariant-loop-key g l = l.keys.items ++ l.key-iterator ≡ l.set.keys
