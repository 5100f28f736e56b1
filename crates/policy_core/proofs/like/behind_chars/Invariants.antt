use Rattle.std.proofs.Common.{◌≡◌, length}
use Rattle.policy_core.specs.Like.{behind_chars}
use Rattle.policy_core.proofs.like.behind_chars.Given as goal

abbrev pub invariant-chars : goal.invariant-chars
invariant-chars l = behind_chars l.pattern l.text ≡ behind_chars l.fn.pattern l.fn.text

abbrev pub decreases-chars : goal.decreases-chars
decreases-chars l = length l.pattern
