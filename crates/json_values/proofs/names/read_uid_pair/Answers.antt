use Rattle.std.proofs.Common.{◌≡◌, ◌≢◌, List, [], ◌∷◌, length, slice_index_or, None, sym, ◌∙◌, refl, arith}
use Rattle.serde_json.specs.Find.{as_str}
use Rattle.serde_json.specs.View.{view, items_view}
use Rattle.serde_json.specs.declared.value.Value.{Value}
use Rattle.json_values.specs.Names.{name_of, uid_of_items, uid_of_parts}
use Rattle.json_values.proofs.names.read_uid_pair.Goals as goal

no_pair : (vs : List Value) → length vs ≢ 2 → None ≡ uid_of_items (items_view vs)
no_pair [] h = refl
no_pair (v ∷ []) h = refl
no_pair (v ∷ w ∷ []) h = absurd (omega arith)
no_pair (v ∷ w ∷ x ∷ vs) h = refl

pair : (vs : List Value) (v w : Value) → length vs ≡ 2 → v ≡ slice_index_or vs 0 v → w ≡ slice_index_or vs 1 w → uid_of_parts (name_of (view v)) (as_str (view w)) ≡ uid_of_items (items_view vs)
pair [] v w h a b = absurd (omega arith)
pair (x ∷ []) v w h a b = absurd (omega arith)
pair (x ∷ y ∷ []) v w h a b = rw (a, b) refl
pair (x ∷ y ∷ z ∷ vs) v w h a b = absurd (omega arith)

pub returns : goal.returns
returns c =
    let vs = c.args.items.now in
    let len : length vs.items ≡ 2 = sym vs.ok.0 ∙ sym c.len.ensures ∙ c.if-len-ne2.false in
    rw (← pair vs.items c.index.result.now c.index-2.result.now len c.index.ensures c.index-2.ensures) c.read_uid_parts.ensures

pub returns-then-len-ne2 : goal.returns-then-len-ne2
returns-then-len-ne2 c =
    let vs = c.args.items.now in
    no_pair vs.items (λ e. c.if-len-ne2.true (c.len.ensures ∙ vs.ok.0 ∙ e))
