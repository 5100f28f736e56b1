use Rattle.std.proofs.Common.{arith, length-take, length-drop}
use Rattle.byte_streams.proofs.Known.{appends_piece}
use Rattle.byte_streams.proofs.writing.write_text.Goals as goal

pub loop-at-preserved : goal.loop-at-preserved
loop-at-preserved g c = record {
  in_range = omega (arith, c.in-Took.ensures.fits, simp (length-take, length-drop) at c.in-Took.ensures.fits.1);
  written = appends_piece _ (g.K.Sink.state c.loop-at.sink).holds _ c.loop-at.at c.in-Took.n c.args.text.now c.loop-at.invariant.written c.in-Took.ensures.bytes;
  count = omega (arith, c.write.ensures.count);
}
