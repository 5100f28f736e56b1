use Rattle.std.proofs.Common.{sym, ap, ◌∙◌}
use Rattle.std.specs.Vec.Iter.{into_iter_items}
use Rattle.level_spec.specs.Levels.{greater}
use Rattle.policy_review.specs.Found.{needed_in, needed_by}
use Rattle.policy_review.proofs.Raising.{greater_assoc}
use Rattle.policy_review.proofs.levels.needed_by.Goals as goal

pub loop-error-preserved : goal.loop-error-preserved
loop-error-preserved c =
    let level = c.loop-error.level in
    let rest = into_iter_items c.next.new.self in
    ap (λ l. greater l (needed_by rest)) (c.greater-level.ensures ∙ ap (greater level) c.needed_in.ensures)
    ∙ greater_assoc level (needed_in c.in-Some.error) (needed_by rest)
    ∙ ap (λ es. greater level (needed_by es)) (sym c.in-Some.ensures.steps.0)
    ∙ c.loop-error.invariant
