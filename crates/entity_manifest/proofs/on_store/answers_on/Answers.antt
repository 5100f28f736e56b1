use Rattle.std.proofs.Common.{◌≡◌, ◌+◌, ◌∷◌, ◌++◌, [], take, ◌∙◌, refl}
use Rattle.std.proofs.lemmas.List.{take_more}
use Rattle.entity_manifest.specs.Answers.{IsStoreAnswer}
use Rattle.entity_manifest.proofs.OneAfterAnother.{zip_push}
use Rattle.entity_manifest.proofs.on_store.answers_on.Goals as goal

pub loop-request-init : goal.loop-request-init
loop-request-init c = rw c.new-answers.ensures.items tt

pub loop-request-preserved : goal.loop-request-preserved
loop-request-preserved c =
    let rs = c.deref-request-items.result.now in
    let i = c.loop-request.request-index in
    let r = c.request-item.result in
    let next : take (i + 1) rs ≡ take i rs ++ r ∷ [] = take_more rs i r c.loop-request-test.true ∙ rw (← c.request-item.is) refl in
    rw (next, c.in_ok-push.ensures.items)
    (zip_push (IsStoreAnswer c.args.schema.now c.args.policies.now.policies c.args.entities.now) (take i rs) c.loop-request.answers.items r c.in_ok-answer.answer
    c.loop-request.invariant c.in_ok-answer.ensures)
