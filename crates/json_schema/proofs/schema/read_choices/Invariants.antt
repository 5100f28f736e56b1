use Rattle.std.proofs.Common.{◌≡◌, ◌++◌, drop, option_map}
use Rattle.serde_json.specs.View.{items_view}
use Rattle.json_schema.specs.Schema.{texts_of_items}
use Rattle.json_schema.proofs.schema.read_choices.Given as goal

-- the ids so far, and then those of the items that are left, are all
abbrev pub invariant-loop-item : goal.invariant-loop-item
invariant-loop-item l = option_map (λ xs. l.all.items ++ xs) (texts_of_items (items_view (drop l.item-index l.item-items))) ≡ texts_of_items (items_view l.item-items)
