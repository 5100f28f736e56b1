use Rattle.std.proofs.Common.{◌≡◌}
use Rattle.policy_core.proofs.like.chars_of.Given as goal

abbrev pub invariant-loop-c : goal.invariant-loop-c
invariant-loop-c l = l.chars.items ≡ l.yielded
