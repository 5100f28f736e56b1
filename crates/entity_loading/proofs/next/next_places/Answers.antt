use Rattle.std.proofs.Common.{inl, inr, sym, ap, subst, refl}
use Rattle.std.specs.BTreeMap.{get}
use Rattle.policy_values.specs.Uid.{uid_cmp}
use Rattle.reads_spec.proofs.Lists.{IsIn}
use Rattle.entity_loading.specs.Places.{IsPlaceBelow, node_of}
use Rattle.entity_loading.specs.Answered.{answer_points, answers_point, AnswerBlocks, SomeAnswerBlocks}
use Rattle.entity_loading.specs.CannotGoOn.{tests_of}
use Rattle.entity_loading.specs.Needs.{Adds}
use Rattle.entity_loading.proofs.FollowSteps.{following_more, refused_weaker, or_weaker}
use Rattle.entity_loading.proofs.next.next_places.Goals as goal

pub returns-in-Err-clause-why : goal.returns-in-Err-clause-why
returns-in-Err-clause-why c =
    let p = c.in-Some.place.now in
    let found = get uid_cmp c.args.found.now in
    refused_weaker _ (SomeAnswerBlocks c.args.nodes.now found c.args.pending.now.keys)
    (λ u h. record {
      place = p;
      among = c.loop-place.invariant.among p (subst (IsIn p) (sym c.in-Some.ensures.steps) (inl refl));
      sticks = subst (λ v. AnswerBlocks (found p.uid) (tests_of v) u) c.new-trie.ensures (subst (λ o. AnswerBlocks o (tests_of c.new-trie.result) u) c.get.ensures.value h);
    })
    c.in-Err.error c.in-Err.ensures.why

pub loop-place-preserved : goal.loop-place-preserved
loop-place-preserved c =
    let p = c.in-Some.place.now in
    let ns = c.args.nodes.now in
    let found = get uid_cmp c.args.found.now in
    let rest = c.next.new.self in
    let steps = c.in-Some.ensures.steps in
    let among = c.loop-place.invariant.among in
    let here = among p (subst (IsIn p) (sym steps) (inl refl)) in
    record {
      following = following_more ns _ _ _ _ _ c.loop-place.invariant.following (answer_points (found p.uid) (node_of ns p)) (answers_point ns found rest) c.follow_answer.new.next.keys
          (λ b x a. ap (λ l. answers_point ns found l b x a) steps)
          (subst (λ v. Adds v.nodes (answer_points (found p.uid) v) c.loop-place.next.keys c.follow_answer.new.next.keys) c.new-trie.ensures
          (subst (λ o. Adds c.new-trie.result.nodes (answer_points o c.new-trie.result) c.loop-place.next.keys c.follow_answer.new.next.keys) c.get.ensures.value c.in_default.ensures.asked))
          (λ q h. or_weaker (λ b. record { from = p; among = here; below = subst (λ v. IsPlaceBelow v q) c.new-trie.ensures b }) (c.in_default.ensures.below q h));
      among = λ q h. among q (subst (IsIn q) (sym steps) (inr h));
    }

pub returns-clause-below : goal.returns-clause-below
returns-clause-below c = λ q h. elim (c.loop-place.invariant.following.below q h) [
  | inl none ↦ absurd none
  | inr below ↦ below
]
