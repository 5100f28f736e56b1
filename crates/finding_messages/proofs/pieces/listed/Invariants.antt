use Rattle.std.proofs.Common.{◌≡◌, ◌++◌, string_bytes}
use Rattle.std.specs.Prelude.{codes, flat_map}
use Rattle.std.specs.List.{join_by}
use Rattle.findings.specs.Texts.{string_text}
use Rattle.finding_messages.proofs.pieces.listed.Given as goal

-- the text so far, and then the ids that are left, each behind a comma
abbrev pub invariant-loop-id : goal.invariant-loop-id
invariant-loop-id l = string_bytes l.text ++ flat_map (λ id. codes ", " ++ string_text id) l.id-iterator.rest.now ≡ join_by string_text (codes ", ") l.ids
