use Rattle.std.proofs.Common.{◌≡◌, ◌≢◌, List, [], ◌∷◌, length, slice_index_or, None, refl, arith}
use Rattle.json.specs.declared.value.Value.{Value}
use Rattle.serde_json.specs.Find.{as_str}
use Rattle.json_values.specs.Names.{name_of, uid_of_items, uid_of_parts}
use Rattle.json_trees.specs.Trees.{tree_view, trees_view}
use Rattle.json_trees.proofs.ids.read_uid_pair.Goals as goal

no_pair : {A : Type 0} (ts : List (Value A)) → length ts ≢ 2 → None ≡ uid_of_items (trees_view ts)
no_pair [] h = refl
no_pair (t ∷ []) h = refl
no_pair (t ∷ s ∷ []) h = absurd (omega arith)
no_pair (t ∷ s ∷ r ∷ ts) h = refl

pair : {A : Type 0} (ts : List (Value A)) (t s : Value A) → length ts ≡ 2 → t ≡ slice_index_or ts 0 t → s ≡ slice_index_or ts 1 s → uid_of_parts (name_of (tree_view t)) (as_str (tree_view s)) ≡ uid_of_items (trees_view ts)
pair [] t s h a b = absurd (omega arith)
pair (x ∷ []) t s h a b = absurd (omega arith)
pair (x ∷ y ∷ []) t s h a b = rw (a, b) refl
pair (x ∷ y ∷ z ∷ ts) t s h a b = absurd (omega arith)

pub returns : goal.returns
returns c =
    let ts = c.args.items.now in
    rw (← pair ts c.index-items-0.result c.index-items-1.result c.if-items-ne2.false c.index-items-0.is c.index-items-1.is) c.read_uid_parts.ensures

pub returns-then-items-ne2 : goal.returns-then-items-ne2
returns-then-items-ne2 c = no_pair c.args.items.now c.if-items-ne2.true
