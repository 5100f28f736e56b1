use Rattle.level_spec.proofs.Hops.{hops_reach}
use Rattle.level_spec.proofs.laws.hops_reach.Goals as goal

pub returns : goal.returns
returns c = hops_reach
