use Rattle.std.proofs.Common.{◌≡◌, ◌≤◌, ◌+◌, ◌*◌, length, drop}
use Rattle.std.specs.Prelude.{◌↔◌}
use Rattle.policy_expressions.specs.Tree.{depth_of, deepest, deepest_named, trees_of, named_of}
use Rattle.policy_expressions.specs.Shape.{SameShapes, SameNamed}
use Rattle.policy_expressions.proofs.shape.+shape.Given as goal

abbrev pub decreases-same_shape : goal.decreases-same_shape
decreases-same_shape g l = 2 * depth_of l.a.now

abbrev pub decreases-same_shapes : goal.decreases-same_shapes
decreases-same_shapes g l = 2 * deepest (trees_of l.xs.now.items) + 1

abbrev pub decreases-same_named : goal.decreases-same_named
decreases-same_named g l = 2 * deepest_named (named_of l.xs.now.entries) + 1

-- what is left decides
abbrev pub invariant-same_shapes-loop-i : goal.invariant-same_shapes-loop-i
invariant-same_shapes-loop-i g l = record {
  lengths : length l.xs.items ≡ length l.us.items;
  left : SameShapes (trees_of l.xs.items) (trees_of l.us.items) ↔ SameShapes (trees_of (drop l.i l.xs.items)) (trees_of (drop l.i l.us.items));
}

abbrev pub invariant-same_named-loop-m : goal.invariant-same_named-loop-m
invariant-same_named-loop-m g l = record {
  left : SameNamed (named_of l.xs.entries) (named_of l.us.entries) ↔ SameNamed (named_of l.m-iterator) (named_of l.rest);
  depth : deepest_named (named_of l.m-iterator) ≤ deepest_named (named_of l.xs.entries);
}
