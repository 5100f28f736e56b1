use Rattle.std.proofs.Common.{◌≡◌, ◌+◌, ◌++◌, ◌∷◌, [], ◌∙◌, true, length, length-append, ap, arith, subst, sym}
use Rattle.std.specs.Io.KnownBytes.{Consumes}
use Rattle.byte_streams.specs.Lines.{is_plain}
use Rattle.byte_streams.proofs.Taken.{behind, prefix_more, last_is, newline_ends, pushed}
use Rattle.byte_streams.proofs.lines.Lines.next_line.Goals as goal

pub loop-self-preserved : goal.loop-self-preserved
loop-self-preserved g c =
    let i = c.loop-self.invariant in
    let h = c.in-Byte.ensures in
    let prefix = c.loop-self.line.items in
    let byte = c.in-Byte.byte in
    let grown : c.push.new.self.items ≡ prefix ++ (byte ∷ []) = pushed c.push.result prefix c.push.new.self.items byte c.if-is_err.ensures.value c.push.ensures.items in
    let longer : length c.push.new.self.items ≡ length prefix + 1 = ap length grown ∙ length-append prefix (byte ∷ []) in
    let more = prefix_more c.args.self.now c.loop-self.self c.next_byte.new.self prefix byte i.plain i.taken h.0 h.1 in
    record {
      in_range = omega (arith, longer, c.loop-self-test.true, c.len.ensures, c.loop-self.line.ok.0, c.push.new.self.ok.0);
      plain = subst (λ xs. is_plain xs ≡ true) (sym grown) more.0;
      taken = subst (Consumes c.args.self.now c.next_byte.new.self) (sym grown) more.1;
    }

pub returns-in-Newline : goal.returns-in-Newline
returns-in-Newline g c =
    let i = c.loop-self.invariant in
    (omega (arith, i.in_range, c.loop-self.line.ok.0), newline_ends c.args.self.now c.loop-self.self c.next_byte.new.self c.loop-self.line.items i.plain i.taken c.in-Newline.ensures)

pub returns-in-End : goal.returns-in-End
returns-in-End g c =
    let i = c.loop-self.invariant in
    last_is c.args.self.now c.loop-self.self c.next_byte.new.self c.loop-self.line.items c.last_line.result (omega (arith, i.in_range, c.loop-self.line.ok.0)) i.plain i.taken c.in-End.ensures c.last_line.ensures

pub returns : goal.returns
returns g c = let i = c.loop-self.invariant in behind c.args.self.now c.loop-self.self c.end_of.new.self c.loop-self.line.items c.end_of.result (omega (arith, i.in_range, c.loop-self-test.false, c.len.ensures, c.loop-self.line.ok.0)) i.plain i.taken c.end_of.ensures
