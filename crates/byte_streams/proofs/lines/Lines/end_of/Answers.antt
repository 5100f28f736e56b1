use Rattle.byte_streams.proofs.Taken.{rest_behind}
use Rattle.byte_streams.proofs.lines.Lines.end_of.Goals as goal

pub returns-in-Byte : goal.returns-in-Byte
returns-in-Byte g c = let h = c.in-Byte.ensures in rest_behind c.args.self.now c.next_byte.new.self c.skip_rest.new.self c.in-Byte.field-0 c.args.line.items c.skip_rest.result h.0 h.1 c.skip_rest.ensures
