use Rattle.std.proofs.Common.{◌≡◌, take}
use Rattle.entity_files.proofs.fetched.copies.Given as goal

abbrev pub invariant-loop-entity : goal.invariant-loop-entity
invariant-loop-entity l = l.copies.items ≡ take l.entity-index l.entity-items
