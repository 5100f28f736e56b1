use Rattle.entity_store.specs.Store.{entity_at}
use Rattle.entity_loading.proofs.BlockedSteps.{IsLooking}
use Rattle.entity_loading.proofs.blocked.blocked_at_some.Given as goal

abbrev pub invariant-loop-place : goal.invariant-loop-place
invariant-loop-place l = IsLooking l.nodes (entity_at l.entities) l.places.keys l.place-iterator
