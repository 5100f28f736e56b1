use Rattle.std.proofs.Common.{◌++◌, ◌⊎◌}
use Rattle.entity_store.specs.declared.request.Request.{Request}
use Rattle.reads_spec.proofs.Lists.{IsIn}
use Rattle.entity_loading.specs.declared.place.Place.{Place}
use Rattle.entity_loading.specs.Places.{IsBelowSome}
use Rattle.entity_loading.specs.Reached.{IsExplored}
use Rattle.entity_loading.proofs.reach.follow_round.Given as goal

abbrev pub invariant-loop-place : goal.invariant-loop-place
invariant-loop-place l = record {
  explored : (q : Request) → IsExplored l.nodes q l.entities l.fn.reached.keys l.pending.keys → IsExplored l.nodes q l.entities l.reached.keys (l.place-iterator ++ l.next.keys);
  below : (p : Place) → IsIn p l.next.keys → IsBelowSome l.nodes l.pending.keys p;
  only : (p : Place) → IsIn p l.reached.keys → IsIn p l.fn.reached.keys ⊎ IsIn p l.pending.keys;
  among : (p : Place) → IsIn p l.place-iterator → IsIn p l.pending.keys;
}
