use Rattle.std.proofs.Common.{◌≡◌, ◌∷◌, ◌++◌, ◌+◌, [], take, sym, ap, ◌∙◌, subst}
use Rattle.std.proofs.lemmas.List.{take_more}
use Rattle.access_tries.specs.declared.edge.Edge.TheVariants.{AnyTag}
use Rattle.access_tries.specs.Views.{LeadsTo, LeadsNowhere}
use Rattle.entity_loader.proofs.CutSteps.{below_more, below_skip, got_same, node_in}
use Rattle.entity_loader.proofs.cut.behind_tags.Goals as goal
use Rattle.entity_loader.proofs.cut.behind_tags.Goals.{in-Some+in_ok-push, in_default}

pub loop-number-preserved : goal.loop-number-preserved
loop-number-preserved c =
    let ns = c.args.nodes.now in
    let is = c.args.numbers.now in
    let i = c.loop-number.number-index in
    let n = c.new.result.number in
    let at = c.new.ensures in
    let here = node_in c.new.result _ at in
    let next : take (i + 1) is ≡ take i is ++ n ∷ [] = take_more is i n c.loop-number-test.true ∙ ap (λ k. take i is ++ k ∷ []) (got_same is i n _ c.loop-number-test.true ∙ sym (ap (λ v. v.number) at)) in
    elim c.match-tags.branch [
      | in-Some+in_ok-push w ↦
          rw (next, ap (λ v. v.items) w.below-is ∙ w.in_ok-push.ensures.items, w.number.ensures)
          (below_more AnyTag ns (take i is) c.loop-number.below.items n c.loop-number.invariant w.in-Some.trie (subst (λ v. LeadsTo AnyTag v w.in-Some.trie) here w.in-Some.ensures))
      | in_default w ↦ rw (next, ap (λ v. v.items) w.below-is) (below_skip AnyTag ns (take i is) c.loop-number.below.items n c.loop-number.invariant (subst (LeadsNowhere AnyTag) here w.in_default.ensures))
    ]
