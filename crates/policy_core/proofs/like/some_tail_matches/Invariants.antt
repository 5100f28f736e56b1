use Rattle.std.proofs.Common.{◌≡◌, length}
use Rattle.policy_core.specs.Like.{some_tail, matches}
use Rattle.policy_core.proofs.like.some_tail_matches.Given as goal

abbrev pub invariant-pieces : goal.invariant-pieces
invariant-pieces l = some_tail (matches l.pattern) l.text ≡ some_tail (matches l.fn.pattern) l.fn.text

abbrev pub decreases-pieces : goal.decreases-pieces
decreases-pieces l = length l.pattern
