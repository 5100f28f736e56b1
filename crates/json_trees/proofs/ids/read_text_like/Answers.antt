use Rattle.std.proofs.Common.{◌≡◌, sym, ◌∙◌}
use Rattle.std.proofs.lemmas.Slice.Eq.{bytes_eq-Decides}
use Rattle.json_values.proofs.NameTest.{name_found}
use Rattle.json_trees.proofs.ids.read_text_like.Goals as goal

pub returns-then-eq : goal.returns-then-eq
returns-then-eq c =
    let text = c.args.text.now in
    let known = c.entity_type-known.result.now in
    let same_bytes : c.as_str.result.now ≡ text = (bytes_eq-Decides c.as_str.result.now text).0 (sym c.eq.ensures ∙ c.if-eq.true) in
    let same : known ≡ text = sym c.as_str.ensures.value ∙ same_bytes in
    name_found text c.in_ok-shared.shared (rw same at c.as_str.ensures.name) (c.in_ok-shared.ensures ∙ same)
