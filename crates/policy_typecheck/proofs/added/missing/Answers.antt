use Rattle.std.proofs.Common.{◌++◌, sym, ap, ◌∙◌}
use Rattle.findings.specs.contracts.error.ValidationErrorEq.TheImpl.Laws.{laws-law}
use Rattle.policy_typecheck.specs.Added.{all_added}
use Rattle.policy_typecheck.specs.Missing.{equal_errors, unmarked}
use Rattle.policy_typecheck.proofs.Lists.{added_behind}
use Rattle.policy_typecheck.proofs.Same.{equal_are_same}
use Rattle.policy_typecheck.proofs.added.missing.Goals as goal

pub returns : goal.returns
returns c =
    let errors = c.args.errors.now in
    let found = c.args.found.keys in
    let more = c.in_ok-more.ensures ∙ ap (unmarked found) c.in_ok-known.ensures.known in
    ap (λ ms. errors ++ ms) more ∙ sym (added_behind equal_errors laws-law errors found c.in_ok-known.ensures.unique) ∙
    ap (λ eq. all_added eq errors found) (equal_are_same c.error_equality_is_exact.ensures)
