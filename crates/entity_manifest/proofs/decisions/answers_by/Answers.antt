use Rattle.std.proofs.Common.{◌≡◌, ◌+◌, ◌∷◌, ◌++◌, [], take, ◌∙◌, refl}
use Rattle.std.proofs.lemmas.List.{take_more}
use Rattle.entity_manifest.proofs.OneAfterAnother.{goes_on_here, goes_on_later, answers_more}
use Rattle.entity_manifest.proofs.decisions.answers_by.Goals as goal

pub loop-request-init : goal.loop-request-init
loop-request-init g c = record {
  goes_on = goes_on_here (g.D.EntityLoader.state c.args.loader.now);
  answers = rw c.new-answers.ensures.items refl;
}

pub loop-request-preserved : goal.loop-request-preserved
loop-request-preserved g c =
    let old = g.D.EntityLoader.state c.args.loader.now in
    let mid = g.D.EntityLoader.state c.loop-request.loader in
    let new = g.D.EntityLoader.state c.answer_to.new.loader in
    let rs = c.deref-request-items.result.now in
    let i = c.loop-request.request-index in
    let r = c.request-item.result in
    let before = c.loop-request.invariant in
    let next : take (i + 1) rs ≡ take i rs ++ r ∷ [] = take_more rs i r c.loop-request-test.true ∙ rw (← c.request-item.is) refl in
    record {
      goes_on = goes_on_later old mid new before.goes_on c.answer_to.ensures.goes_on;
      answers = rw (next, c.in_ok-push.ensures.items)
          (answers_more c.args.schema.now c.args.policies.now.policies old mid new (take i rs) c.loop-request.answers.items r
          c.in_ok-answer.answer before.answers c.answer_to.ensures.goes_on c.in_ok-answer.ensures.answer);
    }
