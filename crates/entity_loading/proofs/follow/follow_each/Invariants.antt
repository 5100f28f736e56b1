use Rattle.std.specs.List.{list_any}
use Rattle.policy_values.specs.Value.{fields_of}
use Rattle.reads_spec.specs.Restrict.{values_in}
use Rattle.entity_loading.specs.Places.{IsAtOrBelow}
use Rattle.entity_loading.specs.Needs.{sees, points}
use Rattle.entity_loading.proofs.FollowSteps.{IsFollowing}
use Rattle.entity_loading.proofs.LedSteps.{IsLeadingSome}
use Rattle.entity_loading.proofs.follow.follow_each.Given as goal

abbrev pub invariant-loop-value : goal.invariant-loop-value
invariant-loop-value l = record {
  following : IsFollowing l.trie.nodes (λ b x a. list_any (λ v. points v (sees b l.trie) x a) (values_in (fields_of l.values.entries))) (λ b x a. list_any (λ v. points v (sees b l.trie) x a) l.value-iterator) (IsAtOrBelow l.trie) l.fn.next.keys l.next.keys;
  leading : IsLeadingSome l.trie (values_in (fields_of l.values.entries)) l.value-iterator;
}
