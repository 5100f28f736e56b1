use Rattle.std.proofs.Common.{add-one, true, subst}
use Rattle.std.specs.List.{AllZip}
use Rattle.entity_loader.specs.Answers.{IsHonest}
use Rattle.entity_loader.proofs.AnswerSteps.{zip_more, zip_all}
use Rattle.entity_loader.proofs.slicer.answers.Goals as goal

pub loop-request-preserved : goal.loop-request-preserved
loop-request-preserved c =
    rw (add-one c.loop-request.request-index, c.in_ok-push.ensures.items)
    (zip_more (IsHonest true c.args.entities.now) c.deref-request-items.result.now c.loop-request.found.items c.loop-request.request-index c.request-item.result c.in_ok-answer.field-0 c.loop-request-test.true c.request-item.is c.loop-request.invariant c.in_ok-answer.ensures)

pub returns : goal.returns
returns c = subst (λ rs. AllZip (IsHonest true c.args.entities.now) rs c.loop-request.found.items) c.deref-request-items.ensures.value (zip_all (IsHonest true c.args.entities.now) c.deref-request-items.result.now c.loop-request.found.items c.loop-request.request-index c.loop-request-test.false c.loop-request.invariant)
