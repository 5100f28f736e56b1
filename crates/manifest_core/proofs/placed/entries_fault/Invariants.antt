use Rattle.std.proofs.Common.{◌≡◌, drop}
use Rattle.manifest_core.specs.Placed.{entries_fault}
use Rattle.manifest_core.proofs.placed.entries_fault.Given as goal

-- what is wrong first is among those that are left
abbrev pub invariant-loop-entry : goal.invariant-loop-entry
invariant-loop-entry l = entries_fault l.schema (drop l.entry-index l.entries) ≡ entries_fault l.schema l.entries
