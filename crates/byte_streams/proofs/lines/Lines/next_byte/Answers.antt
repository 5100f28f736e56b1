use Rattle.std.proofs.Common.{sym, arith}
use Rattle.byte_streams.proofs.Taken.{ended, stepped, refilled, some_in, known_byte}
use Rattle.byte_streams.proofs.lines.Lines.next_byte.Goals as goal
use Rattle.byte_streams.proofs.lines.Lines.next_byte.Goals.{then-self-len+in-Got, else-self-len}

pub returns-in-End : goal.returns-in-End
returns-in-End g c =
    let h = c.in-End.ensures in
    rw (sym c.self.view_is) (ended c.self.inside.at c.self.inside.piece.items c.read_piece.new.piece.items (g.S.Source.state c.self.inside.source).left (g.S.Source.state c.read_piece.new.source).left
    (omega (arith, c.if-self-len.true, c.len.ensures, c.self.inside.piece.ok.0)) h.0 h.1 h.2)

pub returns : goal.returns
returns g c =
    let byte = c.index-byte.result.now in
    known_byte _ _ byte c.known.result c.known.ensures (elim c.if-self-len.branch [
      | then-self-len+in-Got w ↦
          rw (sym c.self.view_is) (rw w.self-inside-is (refilled c.self.inside.at byte c.self.inside.piece.items w.read_piece.new.piece.items (g.S.Source.state c.self.inside.source).left (g.S.Source.state w.read_piece.new.source).left
          (omega (arith, w.if-self-len.true, c.len.ensures, c.self.inside.piece.ok.0)) w.in-Got.ensures.1 (some_in w.read_piece.new.piece.items w.in-Got.ensures.0) (rw w.self-inside-is at c.index-byte.ensures)))
      | else-self-len w ↦
          rw (sym c.self.view_is) (rw w.self-inside-is (stepped c.self.inside.at byte c.self.inside.piece.items (g.S.Source.state c.self.inside.source).left
          (omega (arith, w.if-self-len.false, c.len.ensures, c.self.inside.piece.ok.0)) (rw w.self-inside-is at c.index-byte.ensures)))
    ])
