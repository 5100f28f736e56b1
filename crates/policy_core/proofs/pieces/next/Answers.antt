use Rattle.std.proofs.Common.{arith, sym, ◌∙◌}
use Rattle.policy_core.proofs.PieceSteps.{tried_first, shorter, read_at}
use Rattle.policy_core.proofs.pieces.next.Goals as goal

pub shorter-init : goal.shorter-init
shorter-init c = record {
  at_most = omega arith;
  tried = λ text s i is f. tried_first c.args.piece.now text s i c.args.found f;
}

pub shorter-preserved : goal.shorter-preserved
shorter-preserved c =
    let found = c.shorter.found in
    let at_most = c.shorter.invariant.at_most in
    let border = c.requires.borders found (omega arith) in
    let read = read_at c.args.piece.now found c.index-piece-found.result (omega arith) c.index-piece-found.is in
    record {
      at_most = let less = border.short in omega arith;
      tried = λ text s i is f. shorter c.args.piece.now text s i found _ (omega arith) (omega arith) (λ e. c.if-piece-found.false (sym read ∙ sym e ∙ is)) border (c.shorter.invariant.tried text s i is f);
    }
