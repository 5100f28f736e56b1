use Rattle.std.proofs.Common.{◌≡◌, ◌++◌, map, take}
use Rattle.json_tries.specs.Places.{behind}
use Rattle.json_tries.proofs.places.add_behind.Given as goal

abbrev pub invariant-loop-place : goal.invariant-loop-place
invariant-loop-place l = l.all.items ≡ l.fn.all.items ++ map (behind l.edge) (take l.place-index l.places)
