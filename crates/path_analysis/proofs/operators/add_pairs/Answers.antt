use Rattle.path_analysis.proofs.PairSteps.{pairs_next}
use Rattle.path_analysis.proofs.operators.add_pairs.Goals as goal

pub loop-path-preserved : goal.loop-path-preserved
loop-path-preserved c =
    pairs_next c.args.from.now c.args.to.now c.loop-path.path-index _ c.path-item.is c.loop-path-test.true c.loop-path.demands.keys _ c.in_ok-add_pairs_of.ensures _ c.loop-path.invariant
