use Rattle.std.proofs.Common.{◌≡◌, ◌≤◌, drop, max}
use Rattle.policy_expressions.specs.Tree.{deepest, trees_of}
use Rattle.policy_expressions.specs.Keys.{HaveKeysOnce}
use Rattle.policy_expressions.proofs.expr.deepest_of.Given as goal

abbrev pub invariant-loop-item : goal.invariant-loop-item
invariant-loop-item g l = record {
  depth : max l.depth (deepest (trees_of (drop l.item-index l.items.items))) ≡ deepest (trees_of l.items.items);
  bound : l.depth ≤ 400;
  keys : HaveKeysOnce (trees_of (drop l.item-index l.items.items)) → HaveKeysOnce (trees_of l.items.items);
}
