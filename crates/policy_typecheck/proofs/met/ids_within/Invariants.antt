use Rattle.std.proofs.Common.{◌≡◌, take}
use Rattle.std.specs.List.{list_any}
use Rattle.policy_values.specs.Reaches.{has}
use Rattle.policy_values.specs.declared.entity_uid.EntityUID.{EntityUID}
use Rattle.policy_values.specs.Uid.{uid_cmp}
use Rattle.schema_core.specs.Within.{is_action_within}
use Rattle.policy_typecheck.proofs.met.ids_within.Given as goal

-- the ids that are in one of those so far
abbrev pub invariant-loop-uid : goal.invariant-loop-uid
invariant-loop-uid l = (q : EntityUID) → has uid_cmp l.ids.keys q ≡ list_any (is_action_within l.schema q) (take l.uid-index l.uids)
