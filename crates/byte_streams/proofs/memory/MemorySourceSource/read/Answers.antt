use Rattle.std.proofs.Common.{◌≤◌, ◌+◌, length, arith, sym, ap, ◌∙◌, ◌++◌, drop}
use Rattle.std.proofs.lemmas.List.{take-append-le}
use Rattle.byte_streams.proofs.Known.{drop_piece, rest_whole}
use Rattle.byte_streams.proofs.memory.MemorySourceSource.read.Goals as goal

pub returns-clause-bytes : goal.returns-clause-bytes
returns-clause-bytes c =
    let all = c.args.self.now.bytes.items in
    let at = c.args.self.now.at in
    let n = c.copy_prefix-n.result in
    let room : n ≤ length c.copy_prefix-n.new.piece = omega (arith, c.copy_prefix-n.auto.piece, c.copy_prefix-n.ensures.count) in
    let given = take-append-le n c.copy_prefix-n.new.piece (drop c.min-most.result c.args.piece.now) room ∙ c.copy_prefix-n.ensures.copied in
    drop_piece at n all ∙ ap (λ r. r ++ drop (at + n) all) (sym (rw (rest_whole, c.deref-2.ensures.value) at given))
