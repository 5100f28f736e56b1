use Rattle.std.proofs.Common.{rules, ◌≡◌, ◌++◌, true, inl, inr, refl, sym, subst}
use Rattle.reads_spec.proofs.Lists.{IsIn}
use Rattle.std.specs.BTreeSet.{contains}
use Rattle.entity_loading.specs.Places.{place_cmp}
use Rattle.entity_loading.specs.Reached.{IsExplored}
use Rattle.entity_loading.proofs.SliceReachSteps.{explored_again, explored_more, among_places}
use Rattle.entity_loading.proofs.reach.follow_round.Goals as goal

pub loop-place-preserved-in-Continue-branch-2 : goal.loop-place-preserved-in-Continue-branch-2
loop-place-preserved-in-Continue-branch-2 c =
    let ns = c.args.nodes.now in
    let s = c.args.entities.now in
    let p = c.in-Some.place.now in
    let rest = c.next.new.self in
    let steps = c.in-Some.ensures.steps in
    let inv = c.loop-place.invariant in
    let here = inv.among p (subst (IsIn p) (sym steps) (inl refl)) in
    let next = c.loop-place.next.keys in
    record {
      explored = λ q e.
          explored_more ns q s c.loop-place.reached.keys rest next p (subst (λ l. IsExplored ns q s c.loop-place.reached.keys (l ++ next)) steps (inv.explored q e)) c.ask.new.places.keys c.follow_place.new.next.keys
          c.in_ok-ask.ensures c.in_ok-follow_place.ensures.asked c.in_ok-follow_place.ensures.leads;
      below = λ z h. elim (c.in_ok-follow_place.ensures.below z h) [
        | inl before ↦ inv.below z before
        | inr below ↦ record { from = p; among = here; below = below }
      ];
      only = λ z h. elim (c.in_ok-ask.ensures.only z h) [
        | inl before ↦ inv.only z before
        | inr same ↦ inr (subst (λ y. IsIn y c.args.pending.now.keys) (sym same) here)
      ];
      among = λ z h. inv.among z (subst (IsIn z) (sym steps) (inr h));
    }

pub loop-place-preserved : goal.loop-place-preserved
loop-place-preserved c =
    let ns = c.args.nodes.now in
    let s = c.args.entities.now in
    let p = c.in-Some.place.now in
    let rest = c.next.new.self in
    let steps = c.in-Some.ensures.steps in
    let inv = c.loop-place.invariant in
    let next = c.loop-place.next.keys in
    let has : contains place_cmp c.loop-place.reached p ≡ true = search rules in
    record {
      explored = λ q e. explored_again ns q s c.loop-place.reached.keys rest next p (subst (λ l. IsExplored ns q s c.loop-place.reached.keys (l ++ next)) steps (inv.explored q e)) (among_places p c.loop-place.reached has);
      below = inv.below;
      only = inv.only;
      among = λ z h. inv.among z (subst (IsIn z) (sym steps) (inr h));
    }
