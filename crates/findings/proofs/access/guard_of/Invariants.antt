use Rattle.std.proofs.Common.{◌≡◌, ◌∷◌, string_bytes}
use Rattle.findings.specs.Texts.{guard_of}
use Rattle.findings.proofs.access.guard_of.Given as goal

-- the text so far, and then the last attribute and those that are left
abbrev pub invariant-loop-attr : goal.invariant-loop-attr
invariant-loop-attr l = guard_of (string_bytes l.text) (l.last ∷ l.attr-iterator.rest.now) ≡ guard_of l.start l.attrs
