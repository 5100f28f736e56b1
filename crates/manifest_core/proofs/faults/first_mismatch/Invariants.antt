use Rattle.std.proofs.Common.{◌≡◌}
use Rattle.manifest_core.specs.Mismatches.{first_mismatch}
use Rattle.manifest_core.proofs.faults.first_mismatch.Given as goal

-- what is wrong first is among those that are left
abbrev pub invariant-loop-request_type : goal.invariant-loop-request_type
invariant-loop-request_type l = first_mismatch l.schema l.request_type-iterator ≡ first_mismatch l.schema l.per_action.entries
