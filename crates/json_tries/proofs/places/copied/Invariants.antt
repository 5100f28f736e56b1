use Rattle.std.proofs.Common.{◌≡◌, take}
use Rattle.json_tries.proofs.places.copied.Given as goal

abbrev pub invariant-loop-edge : goal.invariant-loop-edge
invariant-loop-edge l = l.all.items ≡ take l.edge-index l.edges
