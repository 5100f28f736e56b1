use Rattle.std.proofs.Common.{◌≡◌, ◌+◌, ◌∷◌, ◌++◌, [], take, false, ◌∙◌, refl}
use Rattle.std.proofs.lemmas.List.{take_more}
use Rattle.std.proofs.lemmas.Slice.Zip.{all_zipped_more}
use Rattle.entity_loader.specs.Answers.{Fits, IsHonest}
use Rattle.table_loader.specs.Tables.{store_of}
use Rattle.table_loader.proofs.RowSteps.{rows_here, rows_later}
use Rattle.table_loader.proofs.entities.answers.Goals as goal

pub loop-request-init : goal.loop-request-init
loop-request-init g c = record {
  goes_on = rows_here (g.R.Rows.state c.args.rows.now);
  fit = rw c.new-found.ensures.items tt;
  honest = λ t known order. rw c.new-found.ensures.items tt;
}

pub loop-request-preserved : goal.loop-request-preserved
loop-request-preserved g c =
    let old = g.R.Rows.state c.args.rows.now in
    let mid = g.R.Rows.state c.loop-request.rows in
    let new = g.R.Rows.state c.answer.new.rows in
    let rs = c.deref-request-items.result.now in
    let i = c.loop-request.request-index in
    let r = c.request-item.result in
    let before = c.loop-request.invariant in
    let next : take (i + 1) rs ≡ take i rs ++ r ∷ [] = take_more rs i r c.loop-request-test.true ∙ rw (← c.request-item.is) refl in
    record {
      goes_on = rows_later old mid new before.goes_on c.answer.ensures.goes_on;
      fit = rw (next, c.in_ok-push.ensures.items)
          (all_zipped_more Fits (take i rs) c.loop-request.found.items r c.in_ok-answer.answer before.fit c.in_ok-answer.ensures.fit);
      honest = λ t known order. rw (next, c.in_ok-push.ensures.items)
          (all_zipped_more (IsHonest false (store_of t)) (take i rs) c.loop-request.found.items r c.in_ok-answer.answer
          (before.honest t (c.answer.ensures.goes_on.known t known) order) (c.in_ok-answer.ensures.honest t known order));
    }
