use Rattle.std.proofs.Common.{◌≡◌, ◌-◌, Some, map}
use Rattle.std.specs.Prelude.{flat_map}
use Rattle.level_spec.specs.Levels.{greater, least}
use Rattle.policy_validate.specs.Errors.{condition_in, dereferences_in}
use Rattle.policy_review.proofs.Raising.{top}
use Rattle.policy_review.proofs.levels.raised.Given as goal

-- the level is not above the least, and goes up to it
abbrev pub invariant-loop-errors : goal.invariant-loop-errors
invariant-loop-errors l =
    greater (Some l.level) (least (flat_map dereferences_in (map condition_in l.conditions.items))) ≡
    greater (Some l.fn.level) (least (flat_map dereferences_in (map condition_in l.conditions.items)))

abbrev pub decreases-loop-errors : goal.decreases-loop-errors
decreases-loop-errors l = top (flat_map dereferences_in (map condition_in l.conditions.items)) - l.level
