use Rattle.std.proofs.Common.{◌≡◌, ◌++◌, drop, option_map}
use Rattle.serde_json.specs.View.{items_view}
use Rattle.json_tries.specs.Reading.{edges_of_items}
use Rattle.json_tries.proofs.keys.read_edges.Given as goal

-- those so far, and then those of what is left, are all
abbrev pub invariant-loop-item : goal.invariant-loop-item
invariant-loop-item l = option_map (λ es. l.all.items ++ es) (edges_of_items l.listing (items_view (drop l.item-index l.items))) ≡ edges_of_items l.listing (items_view l.items)
