use Rattle.std.proofs.Common.{◌≡◌, string_bytes, take}
use Rattle.std.specs.List.{flat_map}
use Rattle.policy_gate.specs.Answer.{level_line}
use Rattle.policy_gate.proofs.review.level_lines.Given as goal

-- so far the text has the lines on the levels so far
abbrev pub invariant-loop-level : goal.invariant-loop-level
invariant-loop-level l = string_bytes l.text ≡ flat_map level_line (take l.level-index l.level-items)
