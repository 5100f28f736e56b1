use Rattle.std.proofs.Common.{◌≡◌, drop}
use Rattle.schema_types.specs.Ty.{never}
use Rattle.manifest_core.specs.Placed.{places_fault}
use Rattle.manifest_core.proofs.placed.places_fault.Given as goal

-- what is wrong first is among those that are left
abbrev pub invariant-loop-place : goal.invariant-loop-place
invariant-loop-place l = places_fault l.schema l.request_type never (drop l.place-index l.places) ≡ places_fault l.schema l.request_type never l.places
