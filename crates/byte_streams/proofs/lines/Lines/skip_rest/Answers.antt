use Rattle.std.proofs.Common.{◌++◌, ◌∷◌, []}
use Rattle.byte_streams.proofs.Taken.{prefix_more, rest_ends, end_ends}
use Rattle.byte_streams.proofs.lines.Lines.skip_rest.Goals as goal

pub loop-preserved : goal.loop-preserved
loop-preserved g c =
    let i = c.loop.invariant in
    let h = c.in-Byte.ensures in
    let more = prefix_more c.args.self.now c.loop.self c.next_byte.new.self i.0 c.in-Byte.field-0 i.1 i.2 h.0 h.1 in
    (i.0 ++ (c.in-Byte.field-0 ∷ []), more.0, more.1)

pub returns-in-Newline : goal.returns-in-Newline
returns-in-Newline g c = let i = c.loop.invariant in (i.0, rest_ends c.args.self.now c.loop.self c.next_byte.new.self i.0 i.1 i.2 c.in-Newline.ensures)

pub returns-in-End : goal.returns-in-End
returns-in-End g c = let i = c.loop.invariant in (i.0, end_ends c.args.self.now c.loop.self c.next_byte.new.self i.0 i.1 i.2 c.in-End.ensures)
