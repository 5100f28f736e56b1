use Rattle.std.proofs.Common.{inr, sym, ◌∙◌, subst}
use Rattle.entity_loading.specs.CannotGoOn.{tests_of, SomeBlocks}
use Rattle.entity_loading.proofs.PlacePointSteps.{values_are}
use Rattle.entity_loading.proofs.CannotGoOnSteps.{value_later}
use Rattle.entity_loading.proofs.blocking.blocked_in_each.Goals as goal

pub loop-value-init : goal.loop-value-init
loop-value-init c =
    let same = c.into_iter-value-iterator.ensures.into_iter_gives ∙ c.values-value-items.ensures.rest ∙ values_are c.args.values.now.entries in
    record {
      left = λ u h. subst (λ vs. SomeBlocks vs (tests_of c.args.trie.now) u) (sym same) h;
      blocked = λ u h. subst (λ vs. SomeBlocks vs (tests_of c.args.trie.now) u) same h;
    }

pub loop-value-preserved : goal.loop-value-preserved
loop-value-preserved c =
    let t = tests_of c.args.trie.now in
    let steps = c.in-Some.ensures.steps in
    record {
      left = λ u h. value_later c.in-Some.value.now c.next.new.self t u (c.in_default.ensures u) (subst (λ vs. SomeBlocks vs t u) steps (c.loop-value.invariant.left u h));
      blocked = λ u h. c.loop-value.invariant.blocked u (subst (λ vs. SomeBlocks vs t u) (sym steps) (inr h));
    }
