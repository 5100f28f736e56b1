use Rattle.std.proofs.Common.{ap, ◌∙◌}
use Rattle.std.specs.List.{list_any}
use Rattle.entity_loading.specs.Needs.{sees, points}
use Rattle.entity_loading.proofs.PlacePointSteps.{values_are}
use Rattle.entity_loading.proofs.FollowSteps.{following_same, following_more}
use Rattle.entity_loading.proofs.LedSteps.{some_start, some_more}
use Rattle.entity_loading.proofs.follow.follow_each.Goals as goal

pub loop-value-init : goal.loop-value-init
loop-value-init c =
    let v = c.args.trie.now in
    let same = c.into_iter-value-iterator.ensures.into_iter_gives ∙ c.values-value-items.ensures.rest ∙ values_are c.args.values.now.entries in
    record {
      following = following_same _ _ _ _ _ (λ b x a. ap (list_any (λ u. points u (sees b v) x a)) same);
      leading = some_start v _ _ same;
    }

pub loop-value-preserved : goal.loop-value-preserved
loop-value-preserved c =
    let v = c.args.trie.now in
    let value = c.in-Some.value.now in
    let steps = c.in-Some.ensures.steps in
    let i = c.loop-value.invariant in
    record {
      following = following_more v.nodes _ _ _ _ _ i.following (λ b. points value (sees b v)) (λ b x a. list_any (λ u. points u (sees b v) x a) c.next.new.self) c.follow.new.next.keys
          (λ b x a. ap (list_any (λ u. points u (sees b v) x a)) steps) c.in_ok-follow.ensures.asked c.in_ok-follow.ensures.below;
      leading = some_more v _ _ i.leading value c.next.new.self steps c.in_ok-follow.ensures.leads;
    }
