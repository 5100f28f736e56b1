use Rattle.std.proofs.Common.{◌||◌, sym, ap, ◌∙◌}
use Rattle.std.specs.List.{list_any}
use Rattle.plain_lemmas.proofs.Booleans.{or_assoc}
use Rattle.entity_loading.proofs.rounds.note.Goals as goal

pub loop-place-preserved : goal.loop-place-preserved
loop-place-preserved c = λ f.
    let p = c.in-Some.place.now in
    let asked = c.loop-place.asked.keys in
    let more = c.next.new.self in
    ap (λ b. b || list_any f more) (c.in_ok-ask.ensures.tests f) ∙ or_assoc (list_any f asked) (f p) (list_any f more) ∙ ap (λ ps. list_any f asked || list_any f ps) (sym c.in-Some.ensures.steps) ∙ c.loop-place.invariant f
