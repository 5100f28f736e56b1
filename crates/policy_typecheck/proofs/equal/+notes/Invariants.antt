use Rattle.std.proofs.Common.{◌≡◌, ◌≤◌, ◌+◌, ◌*◌, length, drop}
use Rattle.std.specs.Prelude.{◌↔◌}
use Rattle.policy_expressions.specs.Tree.{depth_of, deepest, deepest_named, trees_of, named_of}
use Rattle.policy_typecheck.specs.Equal.{SameOfTrees, SameOfNamed}
use Rattle.policy_typecheck.proofs.equal.+notes.Given as goal

abbrev pub decreases-same_notes : goal.decreases-same_notes
decreases-same_notes l = 3 * depth_of l.a.now + 1

abbrev pub decreases-same_below : goal.decreases-same_below
decreases-same_below l = 3 * depth_of l.a.now

abbrev pub decreases-same_of_all : goal.decreases-same_of_all
decreases-same_of_all l = 3 * deepest (trees_of l.xs.now.items) + 2

abbrev pub decreases-same_of_named : goal.decreases-same_of_named
decreases-same_of_named l = 3 * deepest_named (named_of l.xs.now.entries) + 2

-- what is left decides
abbrev pub invariant-same_of_all-loop-i : goal.invariant-same_of_all-loop-i
invariant-same_of_all-loop-i l = record {
  lengths : length l.xs.items ≡ length l.us.items;
  left : SameOfTrees (trees_of l.xs.items) (trees_of l.us.items) ↔ SameOfTrees (trees_of (drop l.i l.xs.items)) (trees_of (drop l.i l.us.items));
}

abbrev pub invariant-same_of_named-loop-x : goal.invariant-same_of_named-loop-x
invariant-same_of_named-loop-x l = record {
  left : SameOfNamed (named_of l.xs.entries) (named_of l.us.entries) ↔ SameOfNamed (named_of l.x-iterator) (named_of l.rest);
  depth : deepest_named (named_of l.x-iterator) ≤ deepest_named (named_of l.xs.entries);
}
