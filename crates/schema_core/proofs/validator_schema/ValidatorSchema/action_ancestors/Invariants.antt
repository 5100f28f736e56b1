use Rattle.std.proofs.Common.{take}
use Rattle.schema_core.proofs.Queries.{AreAncestors}
use Rattle.schema_core.proofs.validator_schema.ValidatorSchema.action_ancestors.Given as goal

abbrev pub invariant-loop-action : goal.invariant-loop-action
invariant-loop-action l = AreAncestors l.uid (take l.action-index l.self.action_ids) l.ancestors.keys
