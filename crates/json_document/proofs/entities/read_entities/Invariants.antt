use Rattle.std.proofs.Common.{◌≡◌, []}
use Rattle.std.specs.Vec.Iter.{into_iter_items}
use Rattle.json_trees.specs.Trees.{trees_view}
use Rattle.json_document.specs.Entities.{entities_of}
use Rattle.json_document.proofs.entities.read_entities.Given as goal

-- behind the entities so far, what is left gives all
abbrev pub invariant-loop-item : goal.invariant-loop-item
invariant-loop-item l = entities_of l.entities.items (trees_view (into_iter_items l.item-iterator)) ≡ entities_of [] (trees_view l.fn.items.items)
