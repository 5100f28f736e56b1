use Rattle.std.proofs.Common.{◌≡◌, map, take}
use Rattle.access_tries.specs.Walks.{addresses_in}
use Rattle.access_tries.specs.Paths.{demand_of}
use Rattle.access_tries.proofs.least.demands_of.Given as goal

abbrev pub invariant-loop-demand : goal.invariant-loop-demand
invariant-loop-demand l = addresses_in l.addresses.items ≡ map demand_of (take l.demand-index l.demands)
