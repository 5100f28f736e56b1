use Rattle.std.proofs.Common.{◌≡◌, map}
use Rattle.std.specs.List.{list_all}
use Rattle.typecheck_rules.specs.Walked.{has_typing}
use Rattle.typecheck_rules.specs.Operators.{parts_of}
use Rattle.typecheck_operators.specs.Reported.{field_of}
use Rattle.typecheck_operators.proofs.record.are_fields_typed.Given as goal

-- what is left decides
abbrev pub invariant-loop-w : goal.invariant-loop-w
invariant-loop-w l = list_all has_typing (parts_of (map field_of l.w-iterator)) ≡ list_all has_typing (parts_of (map field_of l.fs.entries))
