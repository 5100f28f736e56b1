use Rattle.std.proofs.Common.{arith}
use Rattle.access_tries.proofs.Tails.{not_ended}
use Rattle.access_tries.proofs.least.goes_along.Goals as goal

pub returns-in-None : goal.returns-in-None
returns-in-None c = rw c.in-None.is (not_ended c.args.depth c.args.address.now (omega arith))
