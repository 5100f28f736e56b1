-- Entries that are read item by item.
use Rattle.std.proofs.Common.{◌≡◌, ℕ, ◌+◌, ◌<◌, List, [], ◌∷◌, ◌++◌, Option, Some, None, option_map, append_assoc, length, drop, get_or, refl, sym, ap, ◌∙◌}
use Rattle.std.proofs.lemmas.List.{drop_more}
use Rattle.serde_json.specs.declared.value.Value.{Value}
use Rattle.serde_json.specs.View.{view, items_view}
use Rattle.json_values.specs.Lists.{with_first}
use Rattle.manifest_core.specs.Reading.{Entry, entry_of, entries_of_items}

one_more : (done : List Entry) (e : Entry) (o : Option (List Entry)) → option_map (λ es. done ++ es) (option_map (λ es. e ∷ es) o) ≡ option_map (λ es. (done ++ e ∷ []) ++ es) o
one_more done e None = refl
one_more done e (Some es) = ap Some (sym (append_assoc done (e ∷ []) es))

-- one more entry at the end of those that were read
pub items_more : (vs : List Value) (i : ℕ) (v : Value) → i < length vs → v ≡ get_or vs i v → (done new : List Entry) (e : Entry) → new ≡ done ++ e ∷ [] → entry_of (view v) ≡ Some e → (whole : Option (List Entry))
    → option_map (λ es. done ++ es) (entries_of_items (items_view (drop i vs))) ≡ whole → option_map (λ es. new ++ es) (entries_of_items (items_view (drop (i + 1) vs))) ≡ whole
items_more vs i v lt is done new e more read whole all =
    let rest : Option (List Entry) = entries_of_items (items_view (drop (i + 1) vs)) in
    let here : drop i vs ≡ v ∷ drop (i + 1) vs = drop_more vs i v lt ∙ ap (λ w. w ∷ drop (i + 1) vs) (sym is) in
    ap (λ xs. option_map (λ es. xs ++ es) rest) more
    ∙ sym (one_more done e rest)
    ∙ ap (λ r. option_map (λ es. done ++ es) (with_first r rest)) (sym read)
    ∙ sym (ap (λ ws. option_map (λ es. done ++ es) (entries_of_items (items_view ws))) here)
    ∙ all
