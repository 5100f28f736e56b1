use Rattle.std.proofs.Common.{◌≡◌, ◌≤◌, ◌+◌, ◌*◌, ◌++◌, drop, map}
use Rattle.policy_expressions.specs.Tree.{depth_of, deepest, deepest_named, trees_of, named_of}
use Rattle.findings.specs.Mentioned.{names_in_all, names_in_named}
use Rattle.policy_scope.specs.Literals.{pair_of}
use Rattle.policy_scope.proofs.names.+names.Given as goal

abbrev pub decreases-add_names : goal.decreases-add_names
decreases-add_names g l = 2 * depth_of l.expr.now

abbrev pub decreases-add_names_of_all : goal.decreases-add_names_of_all
decreases-add_names_of_all g l = 2 * deepest (trees_of l.items.now.items) + 1

abbrev pub decreases-add_names_of_named : goal.decreases-add_names_of_named
decreases-add_names_of_named g l = 2 * deepest_named (named_of l.fields.now.entries) + 1

-- the names so far, and then those of what is left
abbrev pub invariant-add_names_of_all-loop-item : goal.invariant-add_names_of_all-loop-item
invariant-add_names_of_all-loop-item g l =
    map pair_of l.names.items ++ names_in_all (trees_of (drop l.item-index l.items.items)) ≡ map pair_of l.fn.names.items ++ names_in_all (trees_of l.items.items)

abbrev pub invariant-add_names_of_named-loop-item : goal.invariant-add_names_of_named-loop-item
invariant-add_names_of_named-loop-item g l = record {
  so_far : map pair_of l.names.items ++ names_in_named (named_of l.item-iterator) ≡ map pair_of l.fn.names.items ++ names_in_named (named_of l.fields.entries);
  depth : deepest_named (named_of l.item-iterator) ≤ deepest_named (named_of l.fields.entries);
}
