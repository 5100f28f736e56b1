use Rattle.std.proofs.Common.{◌≡◌, ◌++◌, drop, string_bytes}
use Rattle.std.specs.Prelude.{flat_map}
use Rattle.finding_messages.specs.Written.{error_text, warning_text}
use Rattle.finding_messages.proofs.written.findings_text.Given as goal

-- the text so far, and then that of the errors, of the warnings, which are left
abbrev pub invariant-loop-error : goal.invariant-loop-error
invariant-loop-error l = string_bytes l.text ++ flat_map error_text (drop l.error-index l.errors) ≡ flat_map error_text l.errors

abbrev pub invariant-loop-warning : goal.invariant-loop-warning
invariant-loop-warning l = string_bytes l.text ++ flat_map warning_text (drop l.warning-index l.warnings) ≡ flat_map error_text l.errors ++ flat_map warning_text l.warnings
