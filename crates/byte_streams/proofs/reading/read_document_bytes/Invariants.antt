use Rattle.std.proofs.Common.{◌+◌, ◌-◌, ◌≤◌, vec_len}
use Rattle.byte_streams.specs.Document.{document_limit, Takes}
use Rattle.byte_streams.proofs.reading.read_document_bytes.Given as goal

abbrev pub invariant-loop-piece : goal.invariant-loop-piece
invariant-loop-piece g l = record {
  in_range : vec_len l.bytes ≤ document_limit + 1;
  taken : Takes (g.S.Source.state l.initial.source) (g.S.Source.state l.source) l.bytes.items;
  count : (g.S.Source.state l.initial.source).faults ≤ (g.S.Source.state l.source).faults;
}

abbrev pub decreases-loop-piece : goal.decreases-loop-piece
decreases-loop-piece g l = document_limit + 1 - vec_len l.bytes
