use Rattle.std.proofs.Common.{length}
use Rattle.live_manifest.proofs.rest.+union_at.Given as goal

abbrev pub decreases-union_at : goal.decreases-union_at
decreases-union_at l = length l.tries.now
