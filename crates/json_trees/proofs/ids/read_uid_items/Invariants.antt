use Rattle.std.proofs.Common.{◌≡◌, ◌++◌, drop, option_map}
use Rattle.json_values.specs.Names.{uids_of_items}
use Rattle.json_trees.specs.Trees.{trees_view}
use Rattle.json_trees.proofs.ids.read_uid_items.Given as goal

-- those so far, and then those of what is left, are all
abbrev pub invariant-loop-item : goal.invariant-loop-item
invariant-loop-item l = option_map (λ xs. l.all.items ++ xs) (uids_of_items (trees_view (drop l.item-index l.items))) ≡ uids_of_items (trees_view l.items)
