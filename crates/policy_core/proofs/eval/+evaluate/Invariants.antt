use Rattle.std.proofs.Common.{◌≡◌, ◌≤◌, ◌+◌, ◌*◌, ◌++◌, drop, max}
use Rattle.std.specs.Map.{keys_of}
use Rattle.policy_expressions.specs.Tree.{depth_of, deepest, deepest_named, trees_of, named_of}
use Rattle.policy_core.specs.Eval.{result_map, eval_all, eval_named}
use Rattle.policy_core.proofs.eval.+evaluate.Given as goal

abbrev pub decreases-outcome_of : goal.decreases-outcome_of
decreases-outcome_of g l = 3 * depth_of l.expr.now

abbrev pub decreases-if_of : goal.decreases-if_of
decreases-if_of g l = 3 * max (depth_of l.x.now.value) (max (depth_of l.y.now.value) (depth_of l.z.now.value)) + 1

abbrev pub decreases-and_of : goal.decreases-and_of
decreases-and_of g l = 3 * max (depth_of l.x.now.value) (depth_of l.y.now.value) + 1

abbrev pub decreases-or_of : goal.decreases-or_of
decreases-or_of g l = 3 * max (depth_of l.x.now.value) (depth_of l.y.now.value) + 1

abbrev pub decreases-both_of : goal.decreases-both_of
decreases-both_of g l = 3 * max (depth_of l.x.now.value) (depth_of l.y.now.value) + 2

abbrev pub decreases-with_right : goal.decreases-with_right
decreases-with_right g l = 3 * depth_of l.y.now.value + 1

abbrev pub decreases-evaluate_all : goal.decreases-evaluate_all
decreases-evaluate_all g l = 3 * deepest (trees_of l.items.now.items) + 1

abbrev pub decreases-evaluate_named : goal.decreases-evaluate_named
decreases-evaluate_named g l = 3 * deepest_named (named_of l.fields.now.entries) + 1

-- the values so far, and then those of what is left
abbrev pub invariant-evaluate_all-loop-item : goal.invariant-evaluate_all-loop-item
invariant-evaluate_all-loop-item g l =
    result_map (λ vs. l.values.items ++ vs) (eval_all (trees_of (drop l.item-index l.items.items)) l.request l.entities) ≡ eval_all (trees_of l.items.items) l.request l.entities

abbrev pub invariant-evaluate_named-loop-name : goal.invariant-evaluate_named-loop-name
invariant-evaluate_named-loop-name g l = record {
  so_far : result_map (λ vs. l.values.entries ++ vs) (eval_named (named_of l.name-iterator) l.request l.entities) ≡ eval_named (named_of l.fields.entries) l.request l.entities;
  keys : keys_of l.fields.entries ≡ keys_of l.values.entries ++ keys_of l.name-iterator;
  depth : deepest_named (named_of l.name-iterator) ≤ deepest_named (named_of l.fields.entries);
}
