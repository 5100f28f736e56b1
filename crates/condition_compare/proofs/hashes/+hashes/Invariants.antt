use Rattle.std.proofs.Common.{◌+◌, ◌*◌}
use Rattle.policy_expressions.specs.Tree.{depth_of, deepest, trees_of}
use Rattle.condition_compare.proofs.hashes.+hashes.Given as goal

abbrev pub decreases-shape_mixed : goal.decreases-shape_mixed
decreases-shape_mixed l = 2 * depth_of l.e.now

abbrev pub decreases-shapes_mixed : goal.decreases-shapes_mixed
decreases-shapes_mixed l = 2 * deepest (trees_of l.xs.now.items) + 1
