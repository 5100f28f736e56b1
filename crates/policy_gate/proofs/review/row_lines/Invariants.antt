use Rattle.std.proofs.Common.{◌≡◌, string_bytes, take}
use Rattle.std.specs.List.{flat_map}
use Rattle.policy_gate.specs.Answer.{row_line}
use Rattle.policy_gate.proofs.review.row_lines.Given as goal

-- so far the text has the lines on the rows so far
abbrev pub invariant-loop-row : goal.invariant-loop-row
invariant-loop-row l = string_bytes l.text ≡ flat_map row_line (take l.row-index l.row-items)
