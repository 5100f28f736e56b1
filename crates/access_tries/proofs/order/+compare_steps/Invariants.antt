use Rattle.std.proofs.Common.{length}
use Rattle.access_tries.proofs.order.+compare_steps.Given as goal

abbrev pub decreases-compare_steps : goal.decreases-compare_steps
decreases-compare_steps l = length l.a.now
