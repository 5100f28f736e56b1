use Rattle.std.proofs.Common.{◌||◌, Some, arith, ap, ◌∙◌}
use Rattle.std.specs.List.{list_any}
use Rattle.std.specs.Vec.Iter.{into_iter_items}
use Rattle.std.proofs.lemmas.List.{nil_from_length}
use Rattle.policy_values.specs.Uid.{uid_eq}
use Rattle.policy_core.specs.Operators.{above}
use Rattle.entity_loading.specs.Joining.{lists}
use Rattle.entity_loading.proofs.MoreSteps.{tests_next, tests_done}
use Rattle.entity_loading.proofs.ancestors.with_more.Goals as goal

pub loop-id-preserved : goal.loop-id-preserved
loop-id-preserved c =
    tests_next c.loop-id.ancestors (into_iter_items c.loop-id.id-iterator) (λ y. above (Some c.args.entity.now) y || lists c.args.ids.items y) c.loop-id.invariant c.insert.new.self c.in-Some.id (into_iter_items c.next.new.self) c.in-Some.ensures.steps.0
    c.in_ok-insert.ensures.updates.0

pub returns-clause-more : goal.returns-clause-more
returns-clause-more c = λ y.
    ap (λ e. list_any (uid_eq y) e.ancestors) c.new.ensures.value
    ∙ tests_done c.loop-id.ancestors (into_iter_items c.loop-id.id-iterator) (λ z. above (Some c.args.entity.now) z || lists c.args.ids.items z) c.loop-id.invariant (nil_from_length _ (omega (arith, c.in-None.ensures.steps.0))) y
