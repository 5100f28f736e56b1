use Rattle.std.proofs.Common.{◌≡◌, ◌∙◌, ap, count_by, IfOk, string_bytes, subst}
use Rattle.edit_service.specs.Texts.{counts_text, is_same, is_unknown}
use Rattle.edit_service.proofs.text.count_line.Goals as goal

pub returns : goal.returns
returns c =
    let same : c.count_same.result ≡ count_by is_same c.args.changes.now.items = c.count_same.ensures ∙ ap (count_by is_same) c.deref.ensures.value in
    let unknown : c.count_unknown.result ≡ count_by is_unknown c.args.changes.now.items = c.count_unknown.ensures ∙ ap (count_by is_unknown) c.deref-2.ensures.value in
    subst (λ text. IfOk c.counts_text.result (λ s. string_bytes s ≡ text)) (λ i. counts_text (same i) (unknown i)) c.counts_text.ensures
