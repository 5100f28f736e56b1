use Rattle.std.proofs.Common.{map, sym, ap, ◌∙◌}
use Rattle.std.proofs.lemmas.Bool.{not-true, not-false}
use Rattle.std.proofs.lemmas.List.{map-append}
use Rattle.level_validate.specs.Faults.{fault_of}
use Rattle.level_validate.proofs.Once.{once_new, once_old}
use Rattle.level_validate.proofs.errors.add_new.Goals as goal

pub loop-fault-preserved-in-Continue-branch-2 : goal.loop-fault-preserved-in-Continue-branch-2
loop-fault-preserved-in-Continue-branch-2 c =
    let before = rw c.in-Some.ensures.steps.0 at c.loop-fault.invariant in
    once_new c.in-Some.fault.needed c.in-Some.fault.source_loc _ _ _ _ _ before _
    (not-true _ (sym c.in_ok-insert.ensures.added ∙ c.if-branch.true)) c.in_ok-insert.ensures.updates.0 (ap (map fault_of) c.in_ok-push.ensures.items ∙ map-append _ _ _)

pub loop-fault-preserved : goal.loop-fault-preserved
loop-fault-preserved c =
    let before = rw c.in-Some.ensures.steps.0 at c.loop-fault.invariant in
    once_old c.in-Some.fault.needed c.in-Some.fault.source_loc _ _ _ _ _ before
    (not-false _ (sym c.in_ok-insert.ensures.added ∙ c.if-branch.false)) (rw c.if-branch.false at c.in_ok-insert.ensures.unchanged)
