use Rattle.std.proofs.Common.{take}
use Rattle.typing_spec.specs.Places.{HasPrints}
use Rattle.typing_spec.proofs.part.places_of.Given as goal

-- the prints of those before are keys
abbrev pub invariant-loop-place : goal.invariant-loop-place
invariant-loop-place l = HasPrints l.places (take l.place l.items.items)
