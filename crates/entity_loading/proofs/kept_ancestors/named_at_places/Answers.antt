use Rattle.std.proofs.Common.{rules, ◌≡◌, ◌∙◌, true, is_some, subst}
use Rattle.std.specs.Prelude.{◌↔◌}
use Rattle.std.specs.BTreeMap.{get}
use Rattle.std.specs.BTreeSet.{contains}
use Rattle.std.specs.Ordering.{nat_cmp}
use Rattle.policy_values.specs.Uid.{uid_cmp}
use Rattle.entity_loading.specs.Names.{IsNamed}
use Rattle.entity_loading.proofs.PartSteps.{naming_start, naming_skip, naming_more, naming_done}
use Rattle.entity_loading.proofs.kept_ancestors.named_at_places.Goals as goal

pub loop-place-init : goal.loop-place-init
loop-place-init c =
    let all = c.into_iter-place-iterator.ensures.into_iter_gives ∙ c.iter-place-items.ensures.rest in
    rw all (naming_start c.args.nodes.now c.args.request.now c.args.kept.now c.args.places.now.keys c.new-named.result c.new-named.ensures.empty)

pub loop-place-preserved-in_ok-insert : goal.loop-place-preserved-in_ok-insert
loop-place-preserved-in_ok-insert c =
    let q = c.args.request.now in
    let ids = c.in_ok-ids.ids in
    let put = c.in_ok-insert.ensures.updates in
    naming_more c.args.nodes.now q c.args.kept.now c.loop-place.place-iterator c.next.new.self c.args.places.now.keys c.in-Some.place.now c.loop-place.named c.in-Some.ensures.steps c.loop-place.invariant
    c.insert.new.self ids put.0 put.1 (λ s k y. subst (λ v. (contains uid_cmp ids y ≡ true) ↔ IsNamed v q s y) c.new.ensures (c.in_ok-ids.ensures s k y))

pub loop-place-preserved-in_ok-insert-2 : goal.loop-place-preserved-in_ok-insert-2
loop-place-preserved-in_ok-insert-2 c =
    let q = c.args.request.now in
    let ids = c.in_ok-ids.ids in
    let put = c.in_ok-insert.ensures.updates in
    naming_more c.args.nodes.now q c.args.kept.now c.loop-place.place-iterator c.next.new.self c.args.places.now.keys c.in-Some.place.now c.loop-place.named c.in-Some.ensures.steps c.loop-place.invariant
    c.insert.new.self ids put.0 put.1 (λ s k y. subst (λ v. (contains uid_cmp ids y ≡ true) ↔ IsNamed v q s y) c.new.ensures (c.in_ok-ids.ensures s k y))

pub loop-place-preserved : goal.loop-place-preserved
loop-place-preserved c =
    let there : is_some (get nat_cmp c.loop-place.named c.in-Some.place.now.number) ≡ true = search rules in
    naming_skip c.args.nodes.now c.args.request.now c.args.kept.now c.loop-place.place-iterator c.next.new.self c.args.places.now.keys c.in-Some.place.now c.loop-place.named c.in-Some.ensures.steps c.loop-place.invariant there

pub returns : goal.returns
returns c = naming_done c.args.nodes.now c.args.request.now c.args.kept.now c.loop-place.place-iterator c.args.places.now.keys c.loop-place.named c.in-None.ensures.steps.0 c.loop-place.invariant
