use Rattle.std.proofs.Common.{◌≡◌, ◌++◌, ◌∷◌, [], ◌+◌, take, sym, ap, ◌∙◌, refl, true, false}
use Rattle.std.proofs.lemmas.List.{take_more}
use Rattle.entity_loader.proofs.AnswerSteps.{listed_more, listed_other}
use Rattle.entity_loader.proofs.slicer.ancestors_among.Goals as goal
use Rattle.entity_loader.proofs.slicer.ancestors_among.Goals.{then-has_ancestor+in_ok-try_clone+in_ok-push, else-has_ancestor}

pub loop-id-preserved : goal.loop-id-preserved
loop-id-preserved c =
    let ids = c.args.ids.now in
    let i = c.loop-id.id-index in
    let id = c.id-item.result in
    let up = c.args.entity.now.ancestors in
    let next : take (i + 1) ids ≡ take i ids ++ id ∷ [] = take_more ids i id c.loop-id-test.true ∙ rw (← c.id-item.is) refl in
    elim c.if-has_ancestor.branch [
      | then-has_ancestor+in_ok-try_clone+in_ok-push w ↦
          rw (next, ap (λ v. v.items) w.found-is ∙ w.in_ok-push.ensures.items, w.in_ok-try_clone.ensures)
          (listed_more up (take i ids) c.loop-id.found.items id c.loop-id.invariant (c.has_ancestor.ensures.0 w.if-has_ancestor.true))
      | else-has_ancestor w ↦
          rw (next, ap (λ v. v.items) w.found-is)
          (listed_other up (take i ids) c.loop-id.found.items id c.loop-id.invariant (λ h. let both : true ≡ false = sym (c.has_ancestor.ensures.1 h) ∙ w.if-has_ancestor.false in absurd (cc)))
    ]
