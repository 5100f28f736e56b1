use Rattle.entity_store.specs.Store.{entity_at}
use Rattle.entity_loading.proofs.BlockedSteps.{looking_more, looking_found, looking_done}
use Rattle.entity_loading.proofs.blocked.blocked_at_some.Goals as goal

pub returns-in-Some-blocked_at : goal.returns-in-Some-blocked_at
returns-in-Some-blocked_at c =
    rw c.in_ok-try_clone.ensures
    (looking_found c.args.nodes.now (entity_at c.args.entities.now) c.args.places.now.keys c.loop-place.place-iterator c.in-Some.place.now c.next.new.self c.in-Some.ensures.steps c.loop-place.invariant c.in-Some-blocked_at.value.now c.in-Some-blocked_at.ensures)

pub loop-place-preserved : goal.loop-place-preserved
loop-place-preserved c = looking_more c.args.nodes.now (entity_at c.args.entities.now) c.args.places.now.keys c.loop-place.place-iterator c.in-Some.place.now c.next.new.self c.in-Some.ensures.steps c.loop-place.invariant c.in_default.ensures

pub returns : goal.returns
returns c = looking_done c.args.nodes.now (entity_at c.args.entities.now) c.args.places.now.keys c.loop-place.place-iterator c.in-None.ensures.steps.0 c.loop-place.invariant
