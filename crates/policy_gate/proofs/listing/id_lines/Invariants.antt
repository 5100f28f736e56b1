use Rattle.std.proofs.Common.{◌≡◌, string_bytes, take}
use Rattle.std.specs.List.{flat_map}
use Rattle.policy_gate.specs.Listing.{id_line}
use Rattle.policy_gate.proofs.listing.id_lines.Given as goal

-- so far the text has the lines on the ids so far
abbrev pub invariant-loop-id : goal.invariant-loop-id
invariant-loop-id l = string_bytes l.text ≡ flat_map id_line (take l.id-index l.id-items)
