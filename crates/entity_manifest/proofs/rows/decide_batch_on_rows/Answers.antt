use Rattle.std.proofs.Common.{refl}
use Rattle.std.specs.List.{AllZip}
use Rattle.std.proofs.lemmas.Result.{IfOk-weaker}
use Rattle.table_loader.specs.State.{store_known, loader_state}
use Rattle.entity_manifest.specs.Answers.{AreLoaderAnswers, IsRowAnswer, AreCounted}
use Rattle.entity_manifest.proofs.OneAfterAnother.{counted}
use Rattle.entity_manifest.proofs.ByRows.{row_answers}
use Rattle.entity_manifest.proofs.rows.decide_batch_on_rows.Goals as goal

pub returns-clause-answers : goal.returns-clause-answers
returns-clause-answers g c =
    let schema = c.args.schema.now in
    let ps = c.args.policies.now.policies in
    let qs = c.args.requests.now.items in
    let r = g.R.Rows.state c.args.loader.now.rows in
    let old = loader_state r c.args.loader.now.rounds c.args.loader.now.lists in
    let new = loader_state (g.R.Rows.state c.decide_batch.new.loader.rows) c.decide_batch.new.loader.rounds c.decide_batch.new.loader.lists in
    IfOk-weaker c.decide_batch.result (λ answers. AreLoaderAnswers schema ps old qs answers.items new)
    (λ answers. AllZip (IsRowAnswer schema ps (store_known r)) qs answers.items)
    (λ answers h. row_answers schema ps (store_known r) (c.known_stores_are_ordered.ensures r) old new qs answers.items (λ w is. is) refl h)
    c.decide_batch.ensures.answers

pub returns-clause-faults : goal.returns-clause-faults
returns-clause-faults g c =
    let schema = c.args.schema.now in
    let ps = c.args.policies.now.policies in
    let qs = c.args.requests.now.items in
    let r = g.R.Rows.state c.args.loader.now.rows in
    let s = g.R.Rows.state c.decide_batch.new.loader.rows in
    let old = loader_state r c.args.loader.now.rounds c.args.loader.now.lists in
    let new = loader_state s c.decide_batch.new.loader.rounds c.decide_batch.new.loader.lists in
    IfOk-weaker c.decide_batch.result (λ answers. AreLoaderAnswers schema ps old qs answers.items new)
    (λ answers. AreCounted answers.items r.faults s.faults)
    (λ answers h. counted schema ps old new qs answers.items h) c.decide_batch.ensures.answers
