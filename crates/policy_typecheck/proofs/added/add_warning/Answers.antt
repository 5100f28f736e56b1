use Rattle.std.proofs.Common.{◌++◌, ◌∷◌, [], sym, ap, ◌∙◌, if◌then◌else◌}
use Rattle.findings.specs.contracts.error.ValidationWarningPartialEq.TheImpl as warning
use Rattle.policy_typecheck.specs.Added.{added, holds}
use Rattle.policy_typecheck.proofs.Same.{equal_warnings_are_same}
use Rattle.policy_typecheck.proofs.added.add_warning.Goals as goal

pub returns-then-contains-clause-added : goal.returns-then-contains-clause-added
returns-then-contains-clause-added c =
    let ws = c.args.warnings.now.items in
    let x = c.args.warning in
    let held = ap (λ ys. holds warning.ghosts.eq ys x) (sym c.deref.ensures.value) ∙ sym c.contains.ensures.value ∙ c.if-contains.true in
    sym (ap (λ b. if b then ws else ws ++ x ∷ []) held) ∙
    ap (λ eq. added eq ws x) (equal_warnings_are_same c.warning_equality_is_exact.ensures)

pub returns-clause-added : goal.returns-clause-added
returns-clause-added c =
    let ws = c.args.warnings.now.items in
    let x = c.args.warning in
    let held = ap (λ ys. holds warning.ghosts.eq ys x) (sym c.deref.ensures.value) ∙ sym c.contains.ensures.value ∙ c.if-contains.false in
    c.in_ok-push.ensures.items ∙ sym (ap (λ b. if b then ws else ws ++ x ∷ []) held) ∙
    ap (λ eq. added eq ws x) (equal_warnings_are_same c.warning_equality_is_exact.ensures)
