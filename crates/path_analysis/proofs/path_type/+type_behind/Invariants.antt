use Rattle.std.proofs.Common.{length}
use Rattle.path_analysis.proofs.path_type.+type_behind.Given as goal

abbrev pub decreases-type_behind : goal.decreases-type_behind
decreases-type_behind l = length l.steps.now
