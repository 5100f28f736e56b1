use Rattle.std.proofs.Common.{◌≡◌, ◌==◌, map, string_bytes, IfOk, ap, subst, ◌∙◌}
use Rattle.std.specs.List.{slice_split}
use Rattle.palvumiose_c.proofs.Words.{words_in-text, words_in-other}
use Rattle.palvumiose_c.proofs.words_of.Goals as goal

pub returns-in_default : goal.returns-in_default
returns-in_default c = ap (map string_bytes) c.new.ensures.items ∙ words_in-other c.args.command.now c.in_default.ensures.cases.0

pub returns : goal.returns
returns c =
    subst (λ ws. IfOk c.own.result (λ words. map string_bytes words.items ≡ ws))
    (ap (map (λ p. p.now)) c.as_slice.ensures.value ∙ c.in_ok-parts.ensures
    ∙ ap (slice_split (λ b. b == 0)) c.in-Ok.ensures.cases.0
    ∙ words_in-text c.args.command.now c.in-Ok.ensures.cases.1)
    c.own.ensures
