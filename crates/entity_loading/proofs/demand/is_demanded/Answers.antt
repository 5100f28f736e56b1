use Rattle.std.proofs.Common.{rules, ◌≡◌, true, false, ◌&&◌, refl, sym, ap, ◌∙◌, subst, map}
use Rattle.std.proofs.lemmas.Bool.{and_parts}
use Rattle.access_tries.specs.declared.table.Link.{Link}
use Rattle.access_tries.specs.declared.edge.Edge.TheVariants.{Root}
use Rattle.access_tries.specs.Edges.{edge_eq}
use Rattle.access_tries.specs.Paths.{edge_of}
use Rattle.access_tries.specs.Table.{links_at, at_path, has_mark}
use Rattle.std.specs.List.{list_any}
use Rattle.entity_loading.specs.CannotGoOn.{tests_of, is_step, MarksSome}
use Rattle.entity_loading.proofs.DemandSteps.{link_demands}
use Rattle.entity_loading.proofs.CannotGoOnSteps.{later_link, none_later, root_edge}
use Rattle.access_tries.specs.SameLaws.{edge_is}
use Rattle.entity_loading.proofs.demand.is_demanded.Goals as goal
use Rattle.entity_loading.proofs.demand.is_demanded.Goals.{then-not-is_step+else-marks_some, else-not-is_step}

pub returns-then-marks_some : goal.returns-then-marks_some
returns-then-marks_some c = (
  λ _.
      let v = c.args.trie.now in
      let all : c.links_of-link-items.result.now ≡ links_at v.nodes v.number = c.links_of-link-items.ensures ∙ (λ j. links_at (c.nodes-nodes.ensures.nodes j) (c.number.ensures j)) in
      let same = c.new.ensures ∙ (λ j. record { nodes = c.nodes-nodes.ensures.nodes j; number = c.link-item.result.number }) in
      let no_step : is_step c.link-item.result.edge ≡ false = search rules in
      let r = root_edge c.link-item.result.edge no_step in
      link_demands v.nodes v.number c.loop-link.link-index c.link-item.result c.nodes-nodes.ensures.table c.links_of-link-items.result.now all c.loop-link-test.true c.link-item.is r.0 r.1
      (subst (λ w. MarksSome (tests_of w)) same (c.marks_some.ensures.0 c.if-marks_some.true)),
  λ _. refl,
)

pub loop-link-preserved : goal.loop-link-preserved
loop-link-preserved c = λ r ns h.
    let v = c.args.trie.now in
    let l = c.link-item.result in
    later_link (λ (k : Link). edge_eq k.edge (Root r) && at_path has_mark v.nodes k.number (map edge_of ns)) c.links_of-link-items.result.now c.loop-link.link-index l c.loop-link-test.true c.link-item.is
    (λ p. let b = and_parts (edge_eq l.edge (Root r)) (at_path has_mark v.nodes l.number (map edge_of ns)) p in
    elim c.if-not-is_step.branch [
      | then-not-is_step+else-marks_some w ↦
          let same = w.new.ensures ∙ (λ j. record { nodes = c.nodes-nodes.ensures.nodes j; number = l.number }) in
          let some = w.marks_some.ensures.1 (subst (λ u. MarksSome (tests_of u)) (sym same) (ns, b.1)) in
          cc (some, w.if-marks_some.false)
      | else-not-is_step w ↦
          let no_step : is_step l.edge ≡ false = ap is_step (edge_is l.edge (Root r) b.0) in
          let step : is_step l.edge ≡ true = search rules in
          cc (step, no_step)
    ])
    (c.loop-link.invariant r ns h)

pub returns : goal.returns
returns c =
    let v = c.args.trie.now in
    let all : c.links_of-link-items.result.now ≡ links_at v.nodes v.number = c.links_of-link-items.ensures ∙ (λ j. links_at (c.nodes-nodes.ensures.nodes j) (c.number.ensures j)) in (
      λ h. absurd (cc h),
      λ g. absurd (none_later (λ (k : Link). edge_eq k.edge (Root g.0) && at_path has_mark v.nodes k.number (map edge_of g.1)) c.links_of-link-items.result.now c.loop-link.link-index c.loop-link-test.false
          (c.loop-link.invariant g.0 g.1 (ap (list_any (λ (k : Link). edge_eq k.edge (Root g.0) && at_path has_mark v.nodes k.number (map edge_of g.1))) all ∙ g.2))),
    )
