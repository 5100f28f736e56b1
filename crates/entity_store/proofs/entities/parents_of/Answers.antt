use Rattle.std.proofs.Common.{◌≡◌, ◌++◌, ◌∷◌, [], ◌+◌, take, drop, refl, sym, ◌∙◌}
use Rattle.std.proofs.lemmas.List.{take_more, take-append-drop}
use Rattle.std.proofs.lemmas.List.Elements.{same_from_all_zip}
use Rattle.policy_values.specs.Uid.{copied_uid}
use Rattle.entity_store.specs.Linked.{links_of}
use Rattle.entity_store.proofs.Placed.{placed_more}
use Rattle.entity_store.proofs.entities.parents_of.Goals as goal

pub loop-entity-preserved : goal.loop-entity-preserved
loop-entity-preserved c =
    let es = c.args.entities.now in
    let i = c.loop-entity.entity-index in
    let e = c.entity-item.result in
    let next : take (i + 1) es ≡ take i es ++ e ∷ [] = take_more es i e c.loop-entity-test.true ∙ rw (← c.entity-item.is) refl in
    let split : es ≡ (take i es ++ e ∷ []) ++ drop (i + 1) es = rw (← next) (sym (take-append-drop (i + 1) es)) in
    let keys : c.in_ok-clone.field-0.keys ≡ e.ancestors = same_from_all_zip _ c.ancestors.result.now.keys c.in_ok-clone.field-0.keys c.in_ok-clone.ensures.cases copied_uid ∙ c.ancestors.ensures.value in
    let copied : c.in_ok-clone.field-0 ≡ links_of e = λ j. record { keys = keys j } in
    rw next (placed_more es c.requires (take i es) e (drop (i + 1) es) split links_of _ _ c.loop-entity.invariant
    (λ q. rw (c.in_ok-try_clone.ensures ∙ c.uid.ensures, copied) at (c.in_ok-insert.ensures.updates.0 q)))
