use Rattle.std.proofs.Common.{length}
use Rattle.path_analysis.proofs.path_type.+count_declared.Given as goal

abbrev pub decreases-count_declared : goal.decreases-count_declared
decreases-count_declared l = length l.steps.now
