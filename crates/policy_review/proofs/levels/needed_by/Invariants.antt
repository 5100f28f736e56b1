use Rattle.std.proofs.Common.{◌≡◌}
use Rattle.std.specs.Vec.Iter.{into_iter_items}
use Rattle.level_spec.specs.Levels.{greater}
use Rattle.policy_review.specs.Found.{needed_by}
use Rattle.policy_review.proofs.levels.needed_by.Given as goal

-- the greatest so far, and what is left
abbrev pub invariant-loop-error : goal.invariant-loop-error
invariant-loop-error l = greater l.level (needed_by (into_iter_items l.error-iterator)) ≡ needed_by l.fn.errors.items
