use Rattle.std.proofs.Common.{rules, ◌≡◌, ◌<◌, length, inl, inr, sym, subst}
use Rattle.std.proofs.lemmas.List.{nil_from_length}
use Rattle.reads_spec.proofs.Lists.{IsIn}
use Rattle.entity_loading.specs.declared.place.Place.{Place}
use Rattle.entity_loading.specs.Places.{IsBelowSome}
use Rattle.entity_loading.specs.Reached.{IsExplored}
use Rattle.entity_loading.proofs.SliceReachSteps.{explored_start, all_reached, lower}
use Rattle.entity_loading.proofs.reach.reached_places.Goals as goal

pub loop-nodes-init : goal.loop-nodes-init
loop-nodes-init c =
    let ns = c.args.trie.now in
    let q = c.args.request.now in
    let s = c.args.entities.now in
    let start = c.in_ok-pending.pending.keys in
    record {
      explored = subst (λ r. IsExplored ns q s r start) (sym c.new-reached.ensures.empty) (explored_start ns q s start c.in_ok-pending.ensures.asked c.in_ok-pending.ensures.leads);
      reached_there = λ p h. absurd (subst (IsIn p) c.new-reached.ensures.empty h);
      pending_there = λ p h. (c.in_ok-pending.ensures.first p h).there;
    }

pub loop-nodes-smaller : goal.loop-nodes-smaller
loop-nodes-smaller c =
    let pending = c.loop-nodes.pending.keys in
    let next = c.in_ok-pending-2.pending.keys in
    let some : 0 < length pending = search rules in
    lower c.args.trie.now pending next some c.loop-nodes.invariant.pending_there (subst (λ ns. (p : Place) → IsIn p next → IsBelowSome ns pending p) c.nodes-nodes.ensures.nodes c.in_ok-pending-2.ensures.below)

pub loop-nodes-preserved : goal.loop-nodes-preserved
loop-nodes-preserved c =
    let q = c.args.request.now in
    let s = c.args.entities.now in
    let pending = c.loop-nodes.pending.keys in
    let next = c.in_ok-pending-2.pending.keys in
    let below = subst (λ ns. (p : Place) → IsIn p next → IsBelowSome ns pending p) c.nodes-nodes.ensures.nodes c.in_ok-pending-2.ensures.below in
    record {
      explored = subst (λ ns. IsExplored ns q s c.loop-nodes.reached.keys pending → IsExplored ns q s c.follow_round.new.reached.keys next) c.nodes-nodes.ensures.nodes (c.in_ok-pending-2.ensures.explored q) c.loop-nodes.invariant.explored;
      reached_there = λ p h. elim (c.in_ok-pending-2.ensures.only p h) [
        | inl before ↦ c.loop-nodes.invariant.reached_there p before
        | inr now ↦ c.loop-nodes.invariant.pending_there p now
      ];
      pending_there = λ p h. (below p h).below.there;
    }

pub returns-clause-reached : goal.returns-clause-reached
returns-clause-reached c =
    let ns = c.args.trie.now in
    let q = c.args.request.now in
    let s = c.args.entities.now in
    let zero : length c.loop-nodes.pending.keys ≡ 0 = search rules in
    let none = nil_from_length c.loop-nodes.pending.keys zero in
    all_reached ns q s c.loop-nodes.reached.keys (subst (IsExplored ns q s c.loop-nodes.reached.keys) none c.loop-nodes.invariant.explored)
