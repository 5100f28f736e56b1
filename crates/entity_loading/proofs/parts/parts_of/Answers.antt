use Rattle.std.proofs.Common.{◌≡◌, ◌∙◌, sym, Some, None}
use Rattle.std.specs.BTreeMap.{get}
use Rattle.policy_values.specs.Uid.{uid_cmp}
use Rattle.reads_spec.specs.Restrict.{cut_entity}
use Rattle.entity_loader.specs.Asked.{asked_by}
use Rattle.entity_loading.specs.Kept.{along_nodes}
use Rattle.entity_loading.proofs.PartSteps.{keeping_more, keeping_skip, keeping_done, chosen, not_chosen, bare_cut}
use Rattle.entity_loading.proofs.parts.parts_of.Goals as goal

pub loop-entity-preserved-in_ok-insert : goal.loop-entity-preserved-in_ok-insert
loop-entity-preserved-in_ok-insert c =
    let k = along_nodes c.args.nodes.now c.args.numbers.now in
    let e = c.in-Some.entity.now in
    let v = c.in-Some-get.list.now in
    let at : get uid_cmp c.args.numbers.now e.uid ≡ Some v = rw c.uid.ensures at (sym c.in-Some-get.ensures.value) in
    let is : c.in_ok-part.part ≡ cut_entity k e =
    c.in_ok-part.ensures ∙ (λ i. record (cut_entity (asked_by c.args.nodes.now (c.deref.ensures.value i)) e) { ancestors = c.new.result.keys }) ∙ bare_cut c.args.nodes.now c.args.numbers.now e v at c.new.result.keys c.new.ensures.empty in
    keeping_more k c.loop-entity.kept e c.loop-entity.entity-iterator c.next.new.self c.args.entities.now c.in-Some.ensures.steps c.loop-entity.invariant c.insert.new.self c.in_ok-part.part
    (chosen c.args.nodes.now c.args.numbers.now e c.requires.there v at) is (rw (c.in_ok-try_clone.ensures, c.uid-in-Some-get.ensures) at c.in_ok-insert.ensures.entries) c.in_ok-insert.ensures.ordered

pub loop-entity-preserved-in_ok-insert-2 : goal.loop-entity-preserved-in_ok-insert-2
loop-entity-preserved-in_ok-insert-2 c =
    let k = along_nodes c.args.nodes.now c.args.numbers.now in
    let e = c.in-Some.entity.now in
    let v = c.in-Some-get.list.now in
    let at : get uid_cmp c.args.numbers.now e.uid ≡ Some v = rw c.uid.ensures at (sym c.in-Some-get.ensures.value) in
    let is : c.in_ok-part.part ≡ cut_entity k e =
    c.in_ok-part.ensures ∙ (λ i. record (cut_entity (asked_by c.args.nodes.now (c.deref.ensures.value i)) e) { ancestors = c.new.result.keys }) ∙ bare_cut c.args.nodes.now c.args.numbers.now e v at c.new.result.keys c.new.ensures.empty in
    keeping_more k c.loop-entity.kept e c.loop-entity.entity-iterator c.next.new.self c.args.entities.now c.in-Some.ensures.steps c.loop-entity.invariant c.insert.new.self c.in_ok-part.part
    (chosen c.args.nodes.now c.args.numbers.now e c.requires.there v at) is (rw (c.in_ok-try_clone.ensures, c.uid-in-Some-get.ensures) at c.in_ok-insert.ensures.entries) c.in_ok-insert.ensures.ordered

pub loop-entity-preserved : goal.loop-entity-preserved
loop-entity-preserved c =
    let k = along_nodes c.args.nodes.now c.args.numbers.now in
    let e = c.in-Some.entity.now in
    let at : get uid_cmp c.args.numbers.now e.uid ≡ None = rw c.uid.ensures at (sym c.in_default.ensures.value) in
    keeping_skip k c.loop-entity.kept e c.loop-entity.entity-iterator c.next.new.self c.args.entities.now c.in-Some.ensures.steps c.loop-entity.invariant (not_chosen c.args.nodes.now c.args.numbers.now e c.requires.there at)

pub returns : goal.returns
returns c = keeping_done (along_nodes c.args.nodes.now c.args.numbers.now) c.loop-entity.kept c.loop-entity.entity-iterator c.args.entities.now c.in-None.ensures.steps.0 c.loop-entity.invariant
