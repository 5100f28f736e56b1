-- What a tree says, level by level.
use Rattle.std.proofs.Common.{◌≡◌, List, Vec, Bor, ℕ, ap, ◌∙◌}
use Rattle.json.specs.Value.{members_view}
use Rattle.json.specs.declared.value.Value.{Value, Array, Object}
use Rattle.json.proofs.Trees.{view-Array, view-Object}
use Rattle.serde_json.specs.Data.{array, object, no_members}
use Rattle.json_trees.specs.Trees.{data_of, members_data, tree_view, trees_view}
use Rattle.json_trees.proofs.Said.{items_said}

pub tree_view-Array : {A : Type 0} (v : Vec (Value A) A) → tree_view (Array v) ≡ array (trees_view v.items)
tree_view-Array v = ap data_of (view-Array v) ∙ ap array (items_said v.items)

pub tree_view-Object : {A : Type 0} (v : Vec (Bor (List ℕ) × Value A) A) → tree_view (Object v) ≡ object (members_data (members_view v.items) no_members)
tree_view-Object v = ap data_of (view-Object v)
