use Rattle.std.proofs.Common.{◌≡◌, ◌∙◌, sym, ap, Some, None}
use Rattle.std.specs.Prelude.{filter}
use Rattle.std.specs.BTreeMap.{get}
use Rattle.policy_values.specs.Uid.{uid_cmp}
use Rattle.reads_spec.specs.Restrict.{cut_entity}
use Rattle.entity_loader.specs.Asked.{asked_by}
use Rattle.entity_loading.specs.Kept.{some_names, with_names}
use Rattle.entity_loading.proofs.PartSteps.{parting_more, parting_skip, chosen, not_chosen, named_cut}
use Rattle.entity_loading.proofs.parts.slice_of.Goals as goal

pub loop-entity-preserved-in_ok-push : goal.loop-entity-preserved-in_ok-push
loop-entity-preserved-in_ok-push c =
    let ns = c.args.nodes.now in
    let m = c.args.numbers.now in
    let sets = c.args.named.now in
    let k = with_names ns m sets in
    let e = c.in-Some.entity.now in
    let v = c.in-Some-get.list.now in
    let at : get uid_cmp m e.uid ≡ Some v = rw c.uid.ensures at (sym c.in-Some-get.ensures.value) in
    let ids = c.in_ok-ancestors.ancestors.keys in
    let are : ids ≡ filter (some_names sets v.items) e.ancestors = c.in_ok-ancestors.ensures ∙ ap (λ is. filter (some_names sets is) e.ancestors) c.deref.ensures.value in
    let is : c.in_ok-cut_entity.field-0 ≡ cut_entity k e = c.in_ok-cut_entity.ensures ∙ (λ i. record (cut_entity (asked_by ns (c.deref-in-Some-get.ensures.value i)) e) { ancestors = ids }) ∙ named_cut ns m e sets v at ids are in
    parting_more k c.loop-entity.slice e c.loop-entity.entity-iterator c.next.new.self c.args.entities.now c.in-Some.ensures.steps c.loop-entity.invariant c.push.new.self c.in_ok-cut_entity.field-0
    (chosen ns m e c.requires.there v at) is c.in_ok-push.ensures.ok

pub loop-entity-preserved : goal.loop-entity-preserved
loop-entity-preserved c =
    let ns = c.args.nodes.now in
    let m = c.args.numbers.now in
    let e = c.in-Some.entity.now in
    let at : get uid_cmp m e.uid ≡ None = rw c.uid.ensures at (sym c.in_default.ensures.value) in
    parting_skip (with_names ns m c.args.named.now) c.loop-entity.slice e c.loop-entity.entity-iterator c.next.new.self c.args.entities.now c.in-Some.ensures.steps c.loop-entity.invariant (not_chosen ns m e c.requires.there at)
