use Rattle.std.proofs.Common.{◌≡◌, map, take}
use Rattle.policy_validate.specs.Described.{action_of, described_action}
use Rattle.policy_validate.proofs.schema.CoreSchemaSchema.action_entities.Given as goal

abbrev pub invariant-loop-declared : goal.invariant-loop-declared
invariant-loop-declared l = map action_of l.entities.items ≡ map (described_action l.self) (take l.declared-index l.self.action_ids)
