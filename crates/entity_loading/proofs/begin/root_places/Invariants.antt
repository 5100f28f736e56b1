use Rattle.std.proofs.Common.{◌≡◌, ◌⊎◌, Bool, true, [], drop}
use Rattle.std.specs.List.{list_any}
use Rattle.policy_values.specs.declared.entity_uid.EntityUID.{EntityUID}
use Rattle.access_tries.specs.Edges.{Address}
use Rattle.entity_loading.specs.Begun.{root_points, roots_point, IsFirst}
use Rattle.entity_loading.specs.Leads.{RootLeads}
use Rattle.entity_loading.proofs.FollowSteps.{IsFollowing}
use Rattle.entity_loading.proofs.begin.root_places.Given as goal

abbrev pub invariant-loop-link : goal.invariant-loop-link
invariant-loop-link l = record {
  following : IsFollowing l.trie (roots_point l.trie l.request) (λ b x a. list_any (λ k. root_points b (record { nodes = l.trie; number = k.number }) l.request k.edge x a) (drop l.link-index l.link-items)) (IsFirst l.trie) [] l.start.keys;
  leading : (b : Bool) (x : EntityUID) (a : Address) → roots_point l.trie l.request b x a ≡ true → RootLeads l.trie l.request b x a ⊎ (list_any (λ k. root_points b (record { nodes = l.trie; number = k.number }) l.request k.edge x a) (drop l.link-index l.link-items) ≡ true);
}
