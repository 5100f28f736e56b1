use Rattle.std.proofs.Common.{◌≡◌, take}
use Rattle.access_tries.specs.Tails.{tails}
use Rattle.access_tries.specs.Walks.{addresses_in}
use Rattle.access_tries.proofs.least.in_order.Given as goal

abbrev pub invariant-loop-edges : goal.invariant-loop-edges
invariant-loop-edges l = tails 0 l.ordered.items ≡ addresses_in (take l.edges-index l.addresses)
