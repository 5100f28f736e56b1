use Rattle.std.proofs.Common.{◌≡◌, ◌+◌, ◌*◌, drop}
use Rattle.policy_expressions.specs.Tree.{depth_of, deepest, trees_of}
use Rattle.condition_truth.specs.Outlines.{are_sure}
use Rattle.condition_compare.proofs.sure.+sure.Given as goal

abbrev pub decreases-is_sure : goal.decreases-is_sure
decreases-is_sure l = 2 * depth_of l.e.now

abbrev pub decreases-are_sure : goal.decreases-are_sure
decreases-are_sure l = 2 * deepest (trees_of l.xs.now.items) + 1

-- what is left decides
abbrev pub invariant-are_sure-loop-x : goal.invariant-are_sure-loop-x
invariant-are_sure-loop-x l = are_sure (trees_of (drop l.x-index l.xs.items)) ≡ are_sure (trees_of l.xs.items)
