use Rattle.std.proofs.Common.{◌≡◌, refl, sym, ap, ◌∙◌}
use Rattle.std.specs.BTreeSet.{insert_key}
use Rattle.policy_values.specs.Uid.{uid_cmp}
use Rattle.entity_loading.specs.Kept.{some_names}
use Rattle.entity_loading.proofs.PickSteps.{pick_more, pick_skip}
use Rattle.entity_loading.proofs.kept_ancestors.ancestors_among.Goals as goal

pub loop-uid-init : goal.loop-uid-init
loop-uid-init c =
    let all : c.into_iter-uid-iterator.result ≡ c.args.entity.now.ancestors = c.into_iter-uid-iterator.ensures.into_iter_gives ∙ c.iter-uid-items.ensures.rest ∙ c.ancestors.ensures.value in
    rw (c.new-ids.ensures.empty, all) refl

pub loop-uid-preserved-in_ok-insert : goal.loop-uid-preserved-in_ok-insert
loop-uid-preserved-in_ok-insert c =
    let ids = c.loop-uid.ids.keys in
    pick_more (some_names c.args.named.now c.args.numbers.now) ids c.loop-uid.uid-iterator c.next.new.self c.args.entity.now.ancestors c.in-Some.uid.now c.in-Some.ensures.steps c.loop-uid.invariant c.insert.new.self.keys
    c.ancestors.ensures.ascending (sym c.some_names.ensures ∙ c.if-some_names.true) (c.in_ok-insert.ensures.keys ∙ ap (insert_key uid_cmp ids) c.in_ok-try_clone.ensures)

pub loop-uid-preserved : goal.loop-uid-preserved
loop-uid-preserved c =
    pick_skip (some_names c.args.named.now c.args.numbers.now) c.loop-uid.ids.keys c.loop-uid.uid-iterator c.next.new.self c.args.entity.now.ancestors c.in-Some.uid.now c.in-Some.ensures.steps c.loop-uid.invariant
    (sym c.some_names.ensures ∙ c.if-some_names.false)
