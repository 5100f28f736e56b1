-- Findings are equal exactly where they are the same.
use Rattle.std.specs.Prelude.{◌≡◌, ◌↔◌, true}
use Rattle.findings.specs.declared.error.ValidationError.{ValidationError}
use Rattle.findings.specs.declared.error.ValidationWarning.{ValidationWarning}
use Rattle.findings.specs.contracts.error.ValidationErrorPartialEq.TheImpl as error
use Rattle.findings.specs.contracts.error.ValidationWarningPartialEq.TheImpl as warning

-- `==` holds of two errors exactly where they are the same: of one kind, of one policy, at one place, and
-- alike in all else that they hold
abbrev pub ErrorEqualityIsExact : Type 0
ErrorEqualityIsExact = (a b : ValidationError) → (error.ghosts.eq a b ≡ true) ↔ (a ≡ b)

-- so it does of two warnings
abbrev pub WarningEqualityIsExact : Type 0
WarningEqualityIsExact = (a b : ValidationWarning) → (warning.ghosts.eq a b ≡ true) ↔ (a ≡ b)
