use Rattle.std.proofs.Common.{◌≡◌, ◌++◌, map, drop}
use Rattle.json_tries.specs.Parts.{led_places}
use Rattle.json_tries.proofs.places.all_led_to.Given as goal

-- those so far, and then those of what is left, are all
abbrev pub invariant-loop-i : goal.invariant-loop-i
invariant-loop-i l = l.all.items ++ led_places (drop l.i l.edges) (drop l.i (map (λ w. w.items) l.lists)) ≡ led_places l.edges (map (λ w. w.items) l.lists)
