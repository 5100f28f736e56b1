use Rattle.std.proofs.Common.{◌≡◌, ◌++◌, drop, option_map}
use Rattle.serde_json.specs.View.{items_view}
use Rattle.manifest_core.specs.Reading.{entries_of_items}
use Rattle.manifest_core.proofs.listing.read_items.Given as goal

-- those so far, and then those of what is left, are all
abbrev pub invariant-loop-item : goal.invariant-loop-item
invariant-loop-item l = option_map (λ es. l.all.items ++ es) (entries_of_items (items_view (drop l.item-index l.items))) ≡ entries_of_items (items_view l.items)
