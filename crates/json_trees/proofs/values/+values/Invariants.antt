use Rattle.std.proofs.Common.{◌≡◌, ◌≤◌, ◌++◌, map}
use Rattle.std.specs.Vec.Iter.{into_iter_items}
use Rattle.json.specs.Value as tree
use Rattle.json.specs.Value.{value_view}
use Rattle.serde_json.specs.View.{view, members_view}
use Rattle.json_trees.specs.Trees.{members_data, named_view, tree_view}
use Rattle.json_trees.proofs.Weight.{weight, items_weight, members_weight}
use Rattle.json_trees.proofs.values.+values.Given as goal

abbrev pub decreases-value_of : goal.decreases-value_of
decreases-value_of l = weight (value_view l.tree)

abbrev pub decreases-values_of : goal.decreases-values_of
decreases-values_of l = items_weight (tree.items_view l.items.items)

abbrev pub decreases-members_of : goal.decreases-members_of
decreases-members_of l = members_weight (tree.members_view l.members.items)

-- the values so far, and those of the items that are left
abbrev pub invariant-values_of-loop-item : goal.invariant-values_of-loop-item
invariant-values_of-loop-item l = record {
  made : map view l.values.items ++ map tree_view (into_iter_items l.item-iterator) ≡ map tree_view l.fn.items.items;
  lighter : items_weight (tree.items_view (into_iter_items l.item-iterator)) ≤ items_weight (tree.items_view l.fn.items.items);
}

-- with the members so far, those that are left give all
abbrev pub invariant-members_of-loop-member : goal.invariant-members_of-loop-member
invariant-members_of-loop-member l = record {
  made : members_data (tree.members_view (into_iter_items l.member-iterator)) (members_view l.found.entries) ≡ named_view l.fn.members.items;
  lighter : members_weight (tree.members_view (into_iter_items l.member-iterator)) ≤ members_weight (tree.members_view l.fn.members.items);
}
