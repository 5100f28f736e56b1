use Rattle.std.proofs.Common.{◌≡◌, ◌++◌, map, drop}
use Rattle.level_validate.specs.Errors.{level_error}
use Rattle.level_validate.specs.Faults.{fault_of}
use Rattle.level_validate.proofs.errors.errors_of.Given as goal

-- the errors so far, and then those of what is left
abbrev pub invariant-loop-fault : goal.invariant-loop-fault
invariant-loop-fault l =
    l.errors.items ++ map (level_error l.policy_id l.max_level) (map fault_of (drop l.fault-index l.faults.items)) ≡ map (level_error l.policy_id l.max_level) (map fault_of l.faults.items)
