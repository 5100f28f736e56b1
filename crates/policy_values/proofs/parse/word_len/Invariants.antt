use Rattle.std.proofs.Common.{ℕ, ◌<◌, slice_index}
use Rattle.policy_values.specs.Name.{IsTail}
use Rattle.policy_values.proofs.parse.word_len.Given as goal

abbrev pub invariant-loop-i : goal.invariant-loop-i
invariant-loop-i l = (k : ℕ) → k < l.i → IsTail (slice_index l.bytes k)
