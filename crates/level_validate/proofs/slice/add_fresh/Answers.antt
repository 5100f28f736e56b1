use Rattle.std.proofs.Common.{map, sym, ap, ◌∙◌}
use Rattle.std.specs.Map.Iter.{deref}
use Rattle.std.proofs.lemmas.List.{map-append}
use Rattle.std.proofs.lemmas.Bool.{not-false}
use Rattle.policy_values.specs.declared.entity_uid.EntityUID.{EntityUID}
use Rattle.policy_values.specs.Uid.{uid_cmp}
use Rattle.std.specs.BTreeSet.{contains}
use Rattle.level_validate.proofs.Growing.{new_added, old_added}
use Rattle.level_validate.proofs.slice.add_fresh.Goals as goal

pub loop-uid-preserved-in_ok-push : goal.loop-uid-preserved-in_ok-push
loop-uid-preserved-in_ok-push c =
    let before = rw c.in-Some.ensures.steps.0 at c.loop-uid.invariant in
    let reported = rw c.in_ok-try_clone.ensures at c.in_ok-insert.ensures.updates.0 in
    new_added _ _ _ _ _ c.in-Some.uid.now before _ _ reported
    (ap (map (deref {X = EntityUID})) c.in_ok-push.ensures.items ∙ map-append _ _ _)

pub loop-uid-preserved : goal.loop-uid-preserved
loop-uid-preserved c =
    let before = rw c.in-Some.ensures.steps.0 at c.loop-uid.invariant in
    let reported = not-false _ (sym c.in_ok-insert.ensures.added ∙ c.if-branch.false) in
    old_added _ _ _ _ _ c.in-Some.uid.now before _ (ap (λ u. contains uid_cmp c.loop-uid.reached u) (sym c.in_ok-try_clone.ensures) ∙ reported) (rw c.if-branch.false at c.in_ok-insert.ensures.unchanged)
