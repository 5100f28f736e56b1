use Rattle.std.proofs.Common.{◌≡◌, ◌∷◌, take}
use Rattle.json_tries.proofs.places.edges_behind.Given as goal

abbrev pub invariant-loop-next : goal.invariant-loop-next
invariant-loop-next l = l.all.items ≡ l.edge ∷ take l.next-index l.edges
