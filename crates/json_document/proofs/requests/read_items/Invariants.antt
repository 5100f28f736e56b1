use Rattle.std.proofs.Common.{◌≡◌, []}
use Rattle.std.specs.Vec.Iter.{into_iter_items}
use Rattle.json_trees.specs.Trees.{trees_view}
use Rattle.json_document.specs.Request.{requests_of}
use Rattle.json_document.proofs.requests.read_items.Given as goal

-- behind the requests so far, what is left gives all
abbrev pub invariant-loop-item : goal.invariant-loop-item
invariant-loop-item l = requests_of l.requests.items (trees_view (into_iter_items l.item-iterator)) ≡ requests_of [] (trees_view l.fn.items.items)
