-- What the code takes for equal is one.
use Rattle.std.proofs.Common.{◌≡◌, ◌↔◌, Bool, true}
use Rattle.std.specs.Cmp.{IsEquivalence, decided}
use Rattle.std.specs.Coded.{Coded}
use Rattle.findings.specs.contracts.error.ValidationError.{the_row as errors}
use Rattle.findings.specs.contracts.error.ValidationWarning.{the_row as warnings}
use Rattle.findings.specs.contracts.error.ValidationWarningPartialEq.TheImpl as warning
use Rattle.finding_laws.specs.Laws.{ErrorEqualityIsExact, WarningEqualityIsExact}
use Rattle.plain_lemmas.proofs.Booleans.{equal_by_both_ways}
use Rattle.typing_spec.specs.Bare.{is_same}
use Rattle.typing_spec.specs.BareLaws.{same_decides}
use Rattle.policy_typecheck.specs.Added.{same_error, same_warning}
use Rattle.policy_typecheck.specs.Missing.{equal_errors}

pub error_laws : IsEquivalence same_error
error_laws = decided same_error (same_decides errors.coded)

both : {T : Type 0} (c : Coded T) (eq : T → T → Bool) → ((a b : T) → (eq a b ≡ true) ↔ (a ≡ b)) → eq ≡ is_same c
both c eq h = λ i a b. equal_by_both_ways (eq a b) (is_same c a b)
    (λ e. (same_decides c a b).1 ((h a b).0 e)) (λ e. (h a b).1 ((same_decides c a b).0 e)) i

pub equal_are_same : ErrorEqualityIsExact → equal_errors ≡ same_error
equal_are_same h = both errors.coded equal_errors h

pub equal_warnings_are_same : WarningEqualityIsExact → warning.ghosts.eq ≡ same_warning
equal_warnings_are_same h = both warnings.coded warning.ghosts.eq h
