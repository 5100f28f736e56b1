use Rattle.std.proofs.Common.{[]}
use Rattle.std.specs.BTreeMap.{get}
use Rattle.policy_values.specs.Uid.{uid_cmp}
use Rattle.reads_spec.proofs.Lists.{IsIn}
use Rattle.entity_loading.specs.declared.place.Place.{Place}
use Rattle.entity_loading.specs.Places.{IsBelowSome}
use Rattle.entity_loading.specs.Answered.{answers_point}
use Rattle.entity_loading.proofs.FollowSteps.{IsFollowing}
use Rattle.entity_loading.proofs.next.next_places.Given as goal

abbrev pub invariant-loop-place : goal.invariant-loop-place
invariant-loop-place l = record {
  following : IsFollowing l.nodes (answers_point l.nodes (get uid_cmp l.found) l.pending.keys) (answers_point l.nodes (get uid_cmp l.found) l.place-iterator) (IsBelowSome l.nodes l.pending.keys) [] l.next.keys;
  among : (q : Place) → IsIn q l.place-iterator → IsIn q l.pending.keys;
}
