use Rattle.std.proofs.Common.{◌≡◌, ◌≤◌, ◌-◌, true, vec_len}
use Rattle.std.specs.Io.KnownBytes.{Consumes}
use Rattle.byte_streams.specs.declared.reading.TheConstants.{DOCUMENT_LIMIT}
use Rattle.byte_streams.specs.Lines.{is_plain}
use Rattle.byte_streams.proofs.lines.Lines.next_line.Given as goal

abbrev pub invariant-loop-self : goal.invariant-loop-self
invariant-loop-self g l = record {
  in_range : vec_len l.line ≤ DOCUMENT_LIMIT;
  plain : is_plain l.line.items ≡ true;
  taken : Consumes l.initial.self l.self l.line.items;
}

abbrev pub decreases-loop-self : goal.decreases-loop-self
decreases-loop-self g l = DOCUMENT_LIMIT - vec_len l.line
