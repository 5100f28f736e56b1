use Rattle.std.proofs.Common.{◌≡◌, true, ◌&&◌, refl, sym, ap, ◌∙◌, [], is_some}
use Rattle.std.proofs.lemmas.Bool.{and_parts}
use Rattle.access_tries.specs.declared.table.Link.{Link}
use Rattle.access_tries.specs.Edges.{edge_eq}
use Rattle.access_tries.specs.Paths.{edge_of}
use Rattle.access_tries.specs.Table.{links_at, at_path}
use Rattle.std.specs.List.{list_any}
use Rattle.entity_loading.specs.CannotGoOn.{is_step}
use Rattle.entity_loading.proofs.DemandSteps.{link_goes_on}
use Rattle.entity_loading.proofs.CannotGoOnSteps.{later_link, none_later, step_edge}
use Rattle.access_tries.specs.SameLaws.{edge_is}
use Rattle.entity_loading.proofs.demand.goes_on.Goals as goal

pub returns-then-is_step : goal.returns-then-is_step
returns-then-is_step c = (
  λ _.
      let v = c.args.trie.now in
      let all : c.links_of-link-items.result.now ≡ links_at v.nodes v.number = c.links_of-link-items.ensures ∙ (λ j. links_at (c.nodes.ensures.nodes j) (c.number.ensures j)) in
      link_goes_on v.nodes v.number c.loop-link.link-index c.link-item.result c.nodes.ensures.table c.links_of-link-items.result.now all c.loop-link-test.true c.link-item.is (sym c.is_step.ensures ∙ c.if-is_step.true),
  λ _. refl,
)

pub loop-link-preserved : goal.loop-link-preserved
loop-link-preserved c = λ n h.
    let v = c.args.trie.now in
    let l = c.link-item.result in
    later_link (λ (k : Link). edge_eq k.edge (edge_of n) && at_path is_some v.nodes k.number []) c.links_of-link-items.result.now c.loop-link.link-index l c.loop-link-test.true c.link-item.is
    (λ p. let b = and_parts (edge_eq l.edge (edge_of n)) (at_path is_some v.nodes l.number []) p in
    let step : is_step l.edge ≡ true = ap is_step (edge_is l.edge (edge_of n) b.0) ∙ step_edge n in
    cc (step, c.is_step.ensures, c.if-is_step.false))
    (c.loop-link.invariant n h)

pub returns : goal.returns
returns c =
    let v = c.args.trie.now in
    let all : c.links_of-link-items.result.now ≡ links_at v.nodes v.number = c.links_of-link-items.ensures ∙ (λ j. links_at (c.nodes.ensures.nodes j) (c.number.ensures j)) in (
      λ h. absurd (cc h),
      λ g. absurd (none_later (λ (k : Link). edge_eq k.edge (edge_of g.0) && at_path is_some v.nodes k.number []) c.links_of-link-items.result.now c.loop-link.link-index c.loop-link-test.false
          (c.loop-link.invariant g.0 (ap (list_any (λ (k : Link). edge_eq k.edge (edge_of g.0) && at_path is_some v.nodes k.number [])) all ∙ g.1))),
    )
