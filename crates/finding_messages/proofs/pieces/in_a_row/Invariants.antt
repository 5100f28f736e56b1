use Rattle.std.proofs.Common.{◌≡◌, ◌∷◌, ◌++◌, string_bytes}
use Rattle.findings.specs.Texts.{in_a_row}
use Rattle.finding_messages.proofs.pieces.in_a_row.Given as goal

-- the text so far, and then the last type and those that are left
abbrev pub invariant-loop-t : goal.invariant-loop-t
invariant-loop-t l = string_bytes l.text ++ in_a_row (l.last ∷ l.t-iterator.rest.now) ≡ in_a_row l.types
