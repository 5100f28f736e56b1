use Rattle.std.proofs.Common.{length}
use Rattle.manifest_core.proofs.placed.+address_fault.Given as goal

abbrev pub decreases-address_fault : goal.decreases-address_fault
decreases-address_fault l = length l.edges.now
