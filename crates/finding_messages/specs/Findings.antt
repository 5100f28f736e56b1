-- The findings on a set of policies.
use Rattle.std.specs.Prelude.{List, refl}
use Rattle.std.specs.Coded.{Coded, coded_list, coded×, code_by}
use Rattle.findings.specs.declared.error.ValidationError.{ValidationError}
use Rattle.findings.specs.declared.error.ValidationWarning.{ValidationWarning}
use Rattle.findings.specs.contracts.error.ValidationError.{the_row as error_row}
use Rattle.findings.specs.contracts.error.ValidationWarning.{the_row as warning_row}

-- the errors, for which policies are refused, and the warnings
pub record Findings : Type 0 where
  pub errors : List ValidationError
  pub warnings : List ValidationWarning

-- they are stored as the pair of the two lists
abbrev pub coded_findings : Coded Findings
coded_findings =
    code_by (List ValidationError × List ValidationWarning)
    (coded× (coded_list error_row.coded) (coded_list warning_row.coded))
    (λ f. (f.errors, f.warnings))
    (λ p. record { errors = p.0; warnings = p.1 })
    (λ _. refl)
