use Rattle.std.proofs.Common.{◌∙◌}
use Rattle.entity_loading.proofs.BorrowSteps.{borrowing_start, borrowing_more, borrowing_done}
use Rattle.entity_loading.proofs.borrowed.borrowed_tries.Goals as goal

pub loop-place-init : goal.loop-place-init
loop-place-init c = borrowing_start c.args.nodes.now c.args.places.now.keys _ c.new-borrowed.result (c.into_iter-place-iterator.ensures.into_iter_gives ∙ c.iter-place-items.ensures.rest) c.new-borrowed.ensures.empty

pub loop-place-preserved : goal.loop-place-preserved
loop-place-preserved c = borrowing_more c.args.nodes.now c.args.places.now.keys c.loop-place.place-iterator c.next.new.self c.in-Some.place.now c.loop-place.borrowed c.lend.new.borrowed c.in-Some.ensures.steps c.loop-place.invariant c.in_ok-lend.ensures

pub returns : goal.returns
returns c = borrowing_done c.args.nodes.now c.args.places.now.keys c.loop-place.place-iterator c.loop-place.borrowed c.in-None.ensures.steps.0 c.loop-place.invariant
