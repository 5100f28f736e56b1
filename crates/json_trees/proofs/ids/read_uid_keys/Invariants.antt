use Rattle.std.proofs.Common.{◌≡◌, [], drop}
use Rattle.json_values.specs.Names.{with_uids}
use Rattle.json_trees.specs.Trees.{trees_view}
use Rattle.json_trees.proofs.ids.read_uid_keys.Given as goal

-- with the ids so far, what is left gives all
abbrev pub invariant-loop-item : goal.invariant-loop-item
invariant-loop-item l = with_uids l.set.keys (trees_view (drop l.item-index l.items)) ≡ with_uids [] (trees_view l.items)
