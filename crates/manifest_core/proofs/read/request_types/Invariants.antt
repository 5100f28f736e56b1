use Rattle.std.proofs.Common.{◌≡◌, take}
use Rattle.manifest_core.specs.Reading.{types_of}
use Rattle.manifest_core.proofs.read.request_types.Given as goal

-- those so far
abbrev pub invariant-loop-entry : goal.invariant-loop-entry
invariant-loop-entry l = l.types.items ≡ types_of (take l.entry-index l.entries)
