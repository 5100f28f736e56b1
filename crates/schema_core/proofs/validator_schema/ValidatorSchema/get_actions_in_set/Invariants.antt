use Rattle.std.proofs.Common.{take}
use Rattle.schema_core.proofs.Queries.{AreActionsIn}
use Rattle.schema_core.proofs.validator_schema.ValidatorSchema.get_actions_in_set.Given as goal

abbrev pub invariant-loop-uid : goal.invariant-loop-uid
invariant-loop-uid l = AreActionsIn l.self (take l.uid-index l.uids) l.actions.keys
