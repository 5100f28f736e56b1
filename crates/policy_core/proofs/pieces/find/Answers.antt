use Rattle.std.proofs.Common.{arith}
use Rattle.policy_core.proofs.PieceSteps.{read_at}
use Rattle.policy_core.proofs.pieces.find.Goals as goal

pub loop-i-preserved : goal.loop-i-preserved
loop-i-preserved c = record {
  at_most = let most = c.next-found.ensures.at_most in let so_far = c.loop-i.invariant.at_most in omega arith;
  found = c.next-found.ensures.next c.args.text.now 0 c.loop-i.i (omega arith) (read_at c.args.text.now c.loop-i.i c.index-text-i.result (omega arith) c.index-text-i.is) c.loop-i.invariant.found;
}
