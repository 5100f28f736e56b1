use Rattle.std.proofs.Common.{◌≡◌, map, filter, take}
use Rattle.access_tries.specs.Walks.{addresses_in}
use Rattle.json_tries.proofs.places.marked_addresses.Given as goal

abbrev pub invariant-loop-place : goal.invariant-loop-place
invariant-loop-place l = addresses_in l.all.items ≡ map (λ p. p.0) (filter (λ p. p.1) (take l.place-index l.places))
