use Rattle.std.proofs.Common.{◌≡◌, ◌++◌, drop, string_bytes}
use Rattle.std.specs.Prelude.{flat_map}
use Rattle.edit_service.specs.Forbids.{cause_line}
use Rattle.edit_service.proofs.forbids.cause_lines.Given as goal

abbrev pub invariant-loop-cause : goal.invariant-loop-cause
invariant-loop-cause l = string_bytes l.text ++ flat_map cause_line (drop l.cause-index l.cause-items) ≡ flat_map cause_line l.cause-items
