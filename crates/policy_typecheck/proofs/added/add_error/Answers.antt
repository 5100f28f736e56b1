use Rattle.std.proofs.Common.{◌++◌, ◌∷◌, [], ap, ◌∙◌, if◌then◌else◌}
use Rattle.findings.specs.contracts.error.ValidationErrorEq.TheImpl.Laws.{laws-law}
use Rattle.policy_typecheck.specs.Added.{added}
use Rattle.policy_typecheck.specs.Missing.{equal_errors}
use Rattle.policy_typecheck.proofs.Lists.{turned}
use Rattle.policy_typecheck.proofs.Same.{equal_are_same}
use Rattle.policy_typecheck.proofs.added.add_error.Goals as goal

pub returns : goal.returns
returns c =
    let found = c.args.found.now.keys in
    let inserted = c.in_ok-insert.ensures.keys ∙ ap (λ b. if b then found else found ++ c.args.error ∷ []) (turned equal_errors laws-law found c.args.error) in
    inserted ∙ ap (λ eq. added eq found c.args.error) (equal_are_same c.error_equality_is_exact.ensures)
