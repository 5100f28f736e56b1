-- Findings as they are written, line by line.
use Rattle.std.specs.Prelude.{ℕ, List, [], ◌++◌, Option, Some, None, length, flat_map, codes}
use Rattle.std.specs.Fmt.{decimal}
use Rattle.policy_expressions.specs.declared.kinds.Loc.{Loc}
use Rattle.findings.specs.declared.error.ValidationError.{ValidationError}
use Rattle.findings.specs.declared.error.ValidationWarning.{ValidationWarning}
use Rattle.finding_messages.specs.Findings.{Findings}
use Rattle.findings.specs.Errors.{error_kind, error_message, error_help, error_place, warning_kind, warning_message, warning_place}

-- where it was found, if that is known
abbrev pub place_text : Option Loc → List ℕ
place_text None = []
place_text (Some l) = codes " at " ++ (decimal l.start ++ (codes ".." ++ decimal l.end))

-- a line of its own for what may help
abbrev pub help_line : Option (List ℕ) → List ℕ
help_line None = []
help_line (Some help) = codes "  help: " ++ (help ++ codes "\n")

-- error or warning, the kind, the place and the message, and what may help
abbrev pub finding_text : List ℕ → List ℕ → Option Loc → List ℕ → Option (List ℕ) → List ℕ
finding_text severity kind place message help = severity ++ (codes " " ++ kind) ++
    place_text place ++ (codes ": " ++ (message ++ codes "\n")) ++ help_line help

abbrev pub error_text : ValidationError → List ℕ
error_text e = finding_text (codes "error") (error_kind e) (error_place e) (error_message e) (error_help e)

abbrev pub warning_text : ValidationWarning → List ℕ
warning_text w = finding_text (codes "warning") (warning_kind w) (warning_place w) (warning_message w) None

-- how many there are of each
abbrev pub count_line : ℕ → ℕ → List ℕ
count_line errors warnings =
    codes "errors " ++ (decimal errors ++ (codes ", warnings " ++ (decimal warnings ++ codes "\n")))

-- all errors, all warnings, and how many there are of each
abbrev pub findings_text : Findings → List ℕ
findings_text f = flat_map error_text f.errors ++ flat_map warning_text f.warnings ++
    count_line (length f.errors) (length f.warnings)
