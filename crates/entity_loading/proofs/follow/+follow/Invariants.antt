use Rattle.std.proofs.Common.{◌+◌, ◌*◌, ◌≤◌}
use Rattle.policy_values.specs.Value.{size_of, size_of_fields, fields_of}
use Rattle.entity_loading.specs.Places.{IsPlaceBelow}
use Rattle.entity_loading.specs.Needs.{sees, fields_point}
use Rattle.entity_loading.proofs.FollowSteps.{IsFollowing}
use Rattle.entity_loading.proofs.LedSteps.{IsLeading}
use Rattle.entity_loading.proofs.follow.+follow.Given as goal

abbrev pub decreases-follow : goal.decreases-follow
decreases-follow l = 2 * size_of l.value.now

abbrev pub decreases-follow_fields : goal.decreases-follow_fields
decreases-follow_fields l = 2 * size_of_fields (fields_of l.fields.now.entries) + 1

abbrev pub invariant-follow_fields-loop-key : goal.invariant-follow_fields-loop-key
invariant-follow_fields-loop-key l = record {
  following : IsFollowing l.trie.nodes (λ b. fields_point (fields_of l.fields.entries) (sees b l.trie)) (λ b. fields_point (fields_of l.key-iterator) (sees b l.trie)) (IsPlaceBelow l.trie) l.fn.next.keys l.next.keys;
  leading : IsLeading l.trie l.fields.entries l.key-iterator;
  within : size_of_fields (fields_of l.key-iterator) ≤ size_of_fields (fields_of l.fields.entries);
}
