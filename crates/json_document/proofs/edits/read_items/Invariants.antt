use Rattle.std.proofs.Common.{◌≡◌, []}
use Rattle.std.specs.Vec.Iter.{into_iter_items}
use Rattle.json_trees.specs.Trees.{trees_view}
use Rattle.json_document.specs.Edits.{edits_of}
use Rattle.json_document.proofs.edits.read_items.Given as goal

-- behind the edits so far, what is left gives all
abbrev pub invariant-loop-item : goal.invariant-loop-item
invariant-loop-item l = edits_of l.edits.items (trees_view (into_iter_items l.item-iterator)) ≡ edits_of [] (trees_view l.fn.items.items)
