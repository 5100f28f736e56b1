use Rattle.std.proofs.Common.{◌≡◌, ◌++◌, take, arith, length, length-append, length-take}
use Rattle.byte_streams.proofs.Known.{takes_more}
use Rattle.byte_streams.proofs.reading.read_document_bytes.Goals as goal

pub returns-then-is_err-clause-err : goal.returns-then-is_err-clause-err
returns-then-is_err-clause-err g c =
    let state = g.S.Source.state in
    let before = c.loop-piece.bytes in
    let piece = take c.in-Got.n c.read.new.piece in
    let size : length piece ≡ c.in-Got.n = simp length-take (omega (arith, c.read.auto.piece, c.in-Got.ensures.fits.1)) in (
      before.items ++ piece,
      takes_more (state c.args.source.now) (state c.loop-piece.source) (state c.read.new.self) before.items piece c.loop-piece.invariant.taken (omega (arith, size, c.in-Got.ensures.taken)) c.in-Got.ensures.bytes,
      simp length-append (omega (arith, size, before.ok.0, simp length-take at c.in-Got.ensures.fits.1)),
    )

pub returns-then-is_err-clause-few : goal.returns-then-is_err-clause-few
returns-then-is_err-clause-few g c = let h = returns-then-is_err-clause-err g c in (h.0, h.2, h.1)
