use Rattle.std.proofs.Common.{◌≡◌, List, [], ◌∷◌, Some, map, refl, sym, ap}
use Rattle.json.specs.Value.{value_view}
use Rattle.json.specs.Value as tree
use Rattle.json.specs.declared.value.Value.{Value}
use Rattle.json.proofs.Trees.{view-Array}
use Rattle.serde_json.specs.Data.{item}
use Rattle.serde_json.specs.View.{items_of}
use Rattle.json_trees.specs.Trees.{items_data, tree_view}
use Rattle.edit_service.proofs.document.items_of.Goals as goal

-- the values of the items of a tree
items_said : {A : Type 0} (ts : List (Value A)) → items_data (tree.items_of (map value_view ts)) ≡ items_of (map tree_view ts)
items_said [] = refl
items_said (t ∷ ts) = ap (item (tree_view t)) (items_said ts)

pub returns-in-Array : goal.returns-in-Array
returns-in-Array c = rw (c.in-Array.is, view-Array c.in-Array.items) (ap Some (sym (items_said c.in-Array.items.items)))
