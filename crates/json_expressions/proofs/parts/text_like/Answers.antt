use Rattle.std.proofs.Common.{◌≡◌, sym, ◌∙◌}
use Rattle.std.proofs.lemmas.Slice.Eq.{bytes_eq-Decides}
use Rattle.json_expressions.proofs.parts.text_like.Goals as goal

pub returns-then-eq : goal.returns-then-eq
returns-then-eq c =
    let text = c.args.text.now in
    let known : c.as_str.result.now ≡ text = (bytes_eq-Decides c.as_str.result.now text).0 (sym c.eq.ensures ∙ c.if-eq.true) in
    c.in_ok-shared.ensures ∙ sym c.as_str.ensures ∙ known
