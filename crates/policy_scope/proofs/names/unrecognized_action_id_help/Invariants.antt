use Rattle.std.proofs.Common.{◌≡◌, find, drop}
use Rattle.policy_scope.specs.Names.{repeats_type}
use Rattle.policy_scope.proofs.names.unrecognized_action_id_help.Given as goal

-- the first of those that are left is the first of all
abbrev pub invariant-loop-action : goal.invariant-loop-action
invariant-loop-action l = find (repeats_type l.uid) (drop l.action-index l.action-items) ≡ find (repeats_type l.uid) l.schema.action_ids
