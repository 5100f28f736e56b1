use Rattle.std.proofs.Common.{◌≡◌, string_bytes, take}
use Rattle.std.specs.List.{flat_map}
use Rattle.policy_gate.specs.Batch.{line_on}
use Rattle.policy_gate.proofs.batch.lines.Given as goal

-- so far the text has the lines on the answers so far
abbrev pub invariant-loop-answer : goal.invariant-loop-answer
invariant-loop-answer l = string_bytes l.text ≡ flat_map line_on (take l.answer-index l.answer-items)
