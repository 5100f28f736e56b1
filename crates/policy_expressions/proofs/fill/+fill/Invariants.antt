use Rattle.std.proofs.Common.{◌≡◌, ◌≤◌, ◌+◌, ◌*◌, ◌++◌, take, map, max}
use Rattle.std.specs.Map.{keys_of}
use Rattle.policy_expressions.specs.Tree.{depth_of, deepest, deepest_named, trees_of, named_of}
use Rattle.policy_expressions.specs.Slots.{filled, filled_entry}
use Rattle.policy_expressions.proofs.fill.+fill.Given as goal

abbrev pub decreases-fill : goal.decreases-fill
decreases-fill g l = 5 * depth_of l.e.now + 1

abbrev pub decreases-fill_kind : goal.decreases-fill_kind
decreases-fill_kind g l = 5 * depth_of l.e.now

abbrev pub decreases-fill_shared : goal.decreases-fill_shared
decreases-fill_shared g l = 5 * depth_of l.e.now.value + 2

abbrev pub decreases-fill_two : goal.decreases-fill_two
decreases-fill_two g l = 5 * max (depth_of l.x.now.value) (depth_of l.y.now.value) + 3

abbrev pub decreases-fill_all : goal.decreases-fill_all
decreases-fill_all g l = 5 * deepest (trees_of l.items.now.items) + 2

abbrev pub decreases-fill_named : goal.decreases-fill_named
decreases-fill_named g l = 5 * deepest_named (named_of l.fields.now.entries) + 2

abbrev pub invariant-fill_all-loop-item : goal.invariant-fill_all-loop-item
invariant-fill_all-loop-item g l = l.copies.items ≡ map (filled l.values) (take l.item-index l.items.items)

abbrev pub invariant-fill_named-loop-name : goal.invariant-fill_named-loop-name
invariant-fill_named-loop-name g l = record {
  so_far : l.copies.entries ++ map (filled_entry l.values) l.name-iterator ≡ map (filled_entry l.values) l.fields.entries;
  keys : keys_of l.fields.entries ≡ keys_of l.copies.entries ++ keys_of l.name-iterator;
  depth : deepest_named (named_of l.name-iterator) ≤ deepest_named (named_of l.fields.entries);
}
