use Rattle.std.proofs.Common.{◌≡◌, map, fold, drop}
use Rattle.std.specs.List.{flat_map}
use Rattle.policy_scope.specs.Names.{with_new, distinct}
use Rattle.level_validate.specs.Errors.{faults_in, condition_in}
use Rattle.level_validate.specs.Faults.{fault_cmp}
use Rattle.level_validate.proofs.errors.faults_in_all.Given as goal

-- what is kept so far, with what is found in what is left, makes the whole
abbrev pub invariant-loop-env : goal.invariant-loop-env
invariant-loop-env l =
    fold (with_new fault_cmp) l.faults (flat_map (faults_in l.max_level) (map condition_in (drop l.env-index l.conditions.items))) ≡ distinct fault_cmp (flat_map (faults_in l.max_level) (map condition_in l.conditions.items))
