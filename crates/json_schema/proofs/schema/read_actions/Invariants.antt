use Rattle.std.proofs.Common.{◌≡◌, ◌++◌, drop, option_map}
use Rattle.serde_json.specs.View.{items_view}
use Rattle.json_schema.specs.Schema.{actions_of_items}
use Rattle.json_schema.proofs.schema.read_actions.Given as goal

-- the actions so far, and then those of the items that are left, are all
abbrev pub invariant-loop-item : goal.invariant-loop-item
invariant-loop-item l = option_map (λ xs. l.actions.items ++ xs) (actions_of_items (items_view (drop l.item-index l.items))) ≡ actions_of_items (items_view l.items)
