use Rattle.std.proofs.Common.{◌||◌, drop, sym, ap, ◌∙◌, ◌+◌, ◌∷◌}
use Rattle.std.proofs.lemmas.List.{at_drop_more}
use Rattle.findings.specs.contracts.error.ValidationErrorEq.TheImpl.Laws.{laws-law}
use Rattle.policy_typecheck.specs.Added.{holds}
use Rattle.policy_typecheck.specs.Missing.{lends, equal_errors}
use Rattle.policy_typecheck.proofs.Lists.{held_left}
use Rattle.policy_typecheck.proofs.added.set_of.Goals as goal

pub loop-error-preserved : goal.loop-error-preserved
loop-error-preserved c x =
    let left = drop (c.loop-error.error-index + 1) c.args.errors.now in
    let taken = at_drop_more (λ ys. holds equal_errors ys x) c.args.errors.now c.loop-error.error-index c.error-item.result c.loop-error-test.true ∙ ap (λ e. holds equal_errors (e ∷ left) x) (sym c.error-item.is) in
    ap (λ ks. lends equal_errors ks x || holds equal_errors left x) c.in_ok-insert.ensures.keys ∙
    held_left equal_errors laws-law c.loop-error.held.keys _ left x ∙
    ap (λ b. lends equal_errors c.loop-error.held.keys x || b) (sym taken) ∙
    c.loop-error.invariant x
