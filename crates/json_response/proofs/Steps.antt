-- Steps of writing.
use Rattle.std.proofs.Common.{◌≡◌, ℕ, List, [], ◌∷◌, ◌++◌, map, ap, sym, subst, ◌∙◌, refl}
use Rattle.std.proofs.lemmas.List.{append-nil, append_assoc}
use Rattle.std.specs.List.Sorted.{IsStrictlySortedBy}
use Rattle.std.specs.Map.{keys_of}
use Rattle.policy_values.specs.Uid.{text_cmp}
use Rattle.policy_values.specs.Maps.{IsNext}
use Rattle.policy_values.specs.Value.{Val, Fields, no_fields, field, vals_of, fields_of}
use Rattle.policy_values.proofs.MapSteps.{next-seam, keys_of-append}
use Rattle.serde_json.specs.Data.{Members, item, member, put}
use Rattle.serde_json.specs.View.{items_of}
use Rattle.json_response.specs.ValueJson.{value_data, items_data, members_data}

-- the members, with each field put at its key
abbrev pub with_fields : Fields → Members → Members
with_fields no_fields ms = ms
with_fields (field k v fs) ms = with_fields fs (put k (value_data v) ms)

-- a key that is greater than those before it goes last
put_last : (done : List (List ℕ × Val)) (e : List ℕ × Val) → IsNext e.0 (keys_of done)
    → put e.0 (value_data e.1) (members_data (fields_of done)) ≡ members_data (fields_of (done ++ e ∷ []))
put_last [] e h = refl
put_last (d ∷ done) e h = rw (h.0) (ap (member d.0 (value_data d.1)) (put_last done e h.1))

-- fields whose keys ascend are put in their order
pub with_rest : (done rest : List (List ℕ × Val)) → IsStrictlySortedBy text_cmp (keys_of (done ++ rest))
    → with_fields (fields_of rest) (members_data (fields_of done)) ≡ members_data (fields_of (done ++ rest))
with_rest done [] h = ap (λ es. members_data (fields_of es)) (sym (append-nil done))
with_rest done (e ∷ rest) h =
    let next = next-seam (keys_of done) e.0 (keys_of rest) (subst (IsStrictlySortedBy text_cmp) (keys_of-append done (e ∷ rest)) h) in
    let same = append_assoc done (e ∷ []) rest in
    ap (with_fields (fields_of rest)) (put_last done e next)
    ∙ with_rest (done ++ e ∷ []) rest (subst (λ es. IsStrictlySortedBy text_cmp (keys_of es)) (sym same) h)
    ∙ ap (λ es. members_data (fields_of es)) same

pub items_of_map : (vs : List Val) → items_of (map value_data vs) ≡ items_data (vals_of vs)
items_of_map [] = refl
items_of_map (v ∷ vs) = ap (item (value_data v)) (items_of_map vs)
