use Rattle.std.proofs.Common.{◌≡◌, ◌≤◌, max, map}
use Rattle.std.specs.List.Sorted.{IsStrictlySortedBy}
use Rattle.policy_values.specs.Uid.{text_cmp}
use Rattle.policy_expressions.specs.Tree.{deepest_named, named_of}
use Rattle.policy_expressions.specs.Keys.{AreKeysOnce}
use Rattle.policy_expressions.proofs.expr.deepest_of_named.Given as goal

abbrev pub invariant-loop-item : goal.invariant-loop-item
invariant-loop-item g l = record {
  depth : max l.depth (deepest_named (named_of l.item-iterator)) ≡ deepest_named (named_of l.fields.entries);
  bound : l.depth ≤ 400;
  keys : AreKeysOnce (named_of l.item-iterator) → AreKeysOnce (named_of l.fields.entries);
  sorted : IsStrictlySortedBy text_cmp (map (λ e. e.0) l.item-iterator);
}
