use Rattle.std.proofs.Common.{◌≡◌, ◌+◌, ◌∷◌, ◌++◌, suc, sym, ap, ◌∙◌, drop, drop-cons, add-one}
use Rattle.std.proofs.lemmas.Result.{err_from_is_err_and}
use Rattle.std.specs.Option.{option_to_list}
use Rattle.std.specs.Vec.Iter.{into_iter_items}
use Rattle.entity_loading.proofs.AnswerSteps.{finding_next, stray_found}
use Rattle.entity_loading.proofs.answers.under_ids.Goals as goal

pub loop-request-preserved : goal.loop-request-preserved
loop-request-preserved c =
    let r = c.request-item.result in
    let i = c.loop-request.request-index in
    let items = c.deref-request-items.result.now in
    let split : drop i items ≡ r ∷ drop (i + 1) items = rw (add-one i) (drop-cons items i r c.loop-request-test.true ∙ ap (λ k. k ∷ drop (suc i) items) (sym c.request-item.is)) in
    let left : into_iter_items c.loop-request.left ≡ c.in-Some.answer ∷ into_iter_items c.next.new.self = c.next.ensures.items ∙ ap (λ o. option_to_list o ++ into_iter_items c.next.new.self) c.in-Some.is in
    finding_next c.args.requests.now.items c.args.answers.items (drop i items) (drop (i + 1) items) (into_iter_items c.loop-request.left) (into_iter_items c.next.new.self) r c.loop-request.found split c.loop-request.invariant
    c.in-Some.answer c.put_answer.new.found left c.in_ok-put_answer.ensures.put

pub returns-in_err-put_answer-clause-why : goal.returns-in_err-put_answer-clause-why
returns-in_err-put_answer-clause-why c =
    let r = c.request-item.result in
    let i = c.loop-request.request-index in
    let items = c.deref-request-items.result.now in
    let split : drop i items ≡ r ∷ drop (i + 1) items = rw (add-one i) (drop-cons items i r c.loop-request-test.true ∙ ap (λ k. k ∷ drop (suc i) items) (sym c.request-item.is)) in
    let left : into_iter_items c.loop-request.left ≡ c.in-Some.answer ∷ into_iter_items c.next.new.self = c.next.ensures.items ∙ ap (λ o. option_to_list o ++ into_iter_items c.next.new.self) c.in-Some.is in
    let exit = err_from_is_err_and c.from_residual.result c.from_residual.ensures.1 in
    rw (exit.1, exit.2)
    (stray_found c.args.requests.now.items c.args.answers.items (drop i items) (drop (i + 1) items) (into_iter_items c.loop-request.left) (into_iter_items c.next.new.self) r c.loop-request.found split c.loop-request.invariant
    c.in-Some.answer left c.in_err-put_answer.field-0.0 c.in_err-put_answer.ensures.why)
