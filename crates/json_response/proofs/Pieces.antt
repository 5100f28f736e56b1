-- The text of an answer, piece by piece.
use Rattle.std.proofs.Common.{◌≡◌, ℕ, List, ◌++◌, map, refl, ap, sym, ◌∙◌, append_assoc}
use Rattle.std.specs.Prelude.{codes}
use Rattle.std.proofs.lemmas.List.{append_cancel_right}
use Rattle.entity_store.specs.Store.{Store}
use Rattle.policy_set.specs.Response.{ResponseData}
use Rattle.serde_json.proofs.OnLiterals.{serde_json_on_literals}
use Rattle.serde_json.specs.Data.{Data, string, array, Members, object, no_members, member}
use Rattle.serde_json.specs.View.{items_of}
use Rattle.serde_json.specs.Written.{compact_text}
use Rattle.json_response.specs.SliceJson.{entity_data, decision_text, failure_data, response_data, slice_text}

-- an answer's first three members, and those that follow
abbrev answer_data : Data → Data → Data → Members → Data
answer_data decision errors reasons rest =
    object (member (codes "decision") decision (member (codes "errors") errors (member (codes "reasons") reasons rest)))

-- the text of the first three, as it is appended
abbrev prefix : Data → Data → Data → List ℕ
prefix decision errors reasons =
    ((((codes "{\"decision\":" ++ compact_text decision) ++ codes ",\"errors\":") ++ compact_text errors) ++ codes ",\"reasons\":") ++ compact_text reasons

prefix_closed : (decision errors reasons : Data) → prefix decision errors reasons ++ codes "}" ≡ compact_text (answer_data decision errors reasons no_members)
unfolding serde_json_on_literals
prefix_closed decision errors reasons = simp append_assoc

prefix_followed : (decision errors reasons entities : Data)
    → ((prefix decision errors reasons ++ codes ",\"slice\":") ++ compact_text entities) ++ codes "}\n"
    ≡ compact_text (answer_data decision errors reasons (member (codes "slice") entities no_members)) ++ codes "\n"
unfolding serde_json_on_literals
prefix_followed decision errors reasons entities = simp append_assoc

pub response_pieces : (r : ResponseData) (decision errors reasons : Data) → decision ≡ string (decision_text r.decision)
    → errors ≡ array (items_of (map failure_data r.errors)) → reasons ≡ array (items_of (map string r.reasons))
    → prefix decision errors reasons ++ codes "}" ≡ compact_text (response_data r)
response_pieces r decision errors reasons d e s =
    let same : answer_data decision errors reasons no_members ≡ response_data r = rw (d, e, s) refl in
    prefix_closed decision errors reasons ∙ ap compact_text same

-- where the text is that of the response without its closing brace
pub slice_pieces : (r : ResponseData) (s : Store) (text : List ℕ) → text ++ codes "}" ≡ compact_text (response_data r)
    → ((text ++ codes ",\"slice\":") ++ compact_text (array (items_of (map entity_data s)))) ++ codes "}\n" ≡ slice_text r s
unfolding slice_text
slice_pieces r s text h =
    let decision = string (decision_text r.decision) in
    let errors = array (items_of (map failure_data r.errors)) in
    let reasons = array (items_of (map string r.reasons)) in
    let same = append_cancel_right text (prefix decision errors reasons) (codes "}") (h ∙ sym (prefix_closed decision errors reasons)) in
    rw same (prefix_followed decision errors reasons (array (items_of (map entity_data s))))
