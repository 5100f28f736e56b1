use Rattle.policy_expressions.specs.Tree.{depth_of}
use Rattle.policy_core.proofs.eval.+entry_of.Given as goal

abbrev pub decreases-entry_of : goal.decreases-entry_of
decreases-entry_of g l = depth_of l.x.now
