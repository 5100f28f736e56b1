use Rattle.std.proofs.Common.{◌≡◌, true, ◌&&◌, refl, sym, ap, ◌∙◌, subst, map}
use Rattle.std.proofs.lemmas.Bool.{and_parts}
use Rattle.access_tries.specs.declared.table.Link.{Link}
use Rattle.access_tries.specs.Edges.{edge_eq}
use Rattle.access_tries.specs.Paths.{edge_of}
use Rattle.access_tries.specs.Table.{links_at, at_path, has_mark}
use Rattle.std.specs.List.{list_any}
use Rattle.entity_loading.specs.CannotGoOn.{tests_of, is_step, MarksSome}
use Rattle.entity_loading.proofs.DemandSteps.{link_marks}
use Rattle.entity_loading.proofs.CannotGoOnSteps.{later_link, none_later, step_edge, no_marks}
use Rattle.access_tries.specs.SameLaws.{edge_is}
use Rattle.entity_loading.proofs.demand.+marking.Goals as goal
use Rattle.entity_loading.proofs.demand.+marking.Goals.{then-is_step+else-marks_some, else-is_step}

pub returns-then-marks_some : goal.returns-then-marks_some
returns-then-marks_some t c = (
  λ _.
      let v = c.args.trie.now in
      let all : c.links_of-link-items.result.now ≡ links_at v.nodes v.number = c.links_of-link-items.ensures ∙ (λ j. links_at (c.nodes-nodes.ensures.nodes j) (c.number.ensures j)) in
      let same = c.new.ensures ∙ (λ j. record { nodes = c.nodes-nodes.ensures.nodes j; number = c.link-item.result.number }) in
      link_marks v.nodes v.number c.loop-link.link-index c.link-item.result c.nodes-nodes.ensures.table c.links_of-link-items.result.now all c.loop-link-test.true c.link-item.is (sym c.is_step.ensures ∙ c.if-is_step.true)
      (subst (λ w. MarksSome (tests_of w)) same (c.marks_some.ensures.0 c.if-marks_some.true)),
  λ _. refl,
)

pub loop-link-preserved : goal.loop-link-preserved
loop-link-preserved t c = λ n ns h.
    let v = c.args.trie.now in
    let l = c.link-item.result in
    later_link (λ (k : Link). edge_eq k.edge (edge_of n) && at_path has_mark v.nodes k.number (map edge_of ns)) c.links_of-link-items.result.now c.loop-link.link-index l c.loop-link-test.true c.link-item.is
    (λ p. let b = and_parts (edge_eq l.edge (edge_of n)) (at_path has_mark v.nodes l.number (map edge_of ns)) p in
    elim c.if-is_step.branch [
      | then-is_step+else-marks_some w ↦
          let same = w.new.ensures ∙ (λ j. record { nodes = c.nodes-nodes.ensures.nodes j; number = l.number }) in
          let some = w.marks_some.ensures.1 (subst (λ u. MarksSome (tests_of u)) (sym same) (ns, b.1)) in
          cc (some, w.if-marks_some.false)
      | else-is_step w ↦
          let step : is_step l.edge ≡ true = ap is_step (edge_is l.edge (edge_of n) b.0) ∙ step_edge n in
          cc (step, c.is_step.ensures, w.if-is_step.false)
    ])
    (c.loop-link.invariant n ns h)

pub returns : goal.returns
returns t c =
    let v = c.args.trie.now in
    let all : c.links_of-link-items.result.now ≡ links_at v.nodes v.number = c.links_of-link-items.ensures ∙ (λ j. links_at (c.nodes-nodes.ensures.nodes j) (c.number.ensures j)) in (
      λ h. absurd (cc h),
      λ g. absurd (no_marks v g (sym c.is_ancestor.ensures ∙ c.if-is_ancestor.false)
          (λ n ns p. none_later (λ (k : Link). edge_eq k.edge (edge_of n) && at_path has_mark v.nodes k.number (map edge_of ns)) c.links_of-link-items.result.now c.loop-link.link-index c.loop-link-test.false
          (c.loop-link.invariant n ns (ap (list_any (λ (k : Link). edge_eq k.edge (edge_of n) && at_path has_mark v.nodes k.number (map edge_of ns))) all ∙ p)))),
    )
