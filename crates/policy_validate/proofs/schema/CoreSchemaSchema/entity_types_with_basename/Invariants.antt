use Rattle.std.proofs.Common.{◌≡◌, map, take}
use Rattle.policy_validate.specs.Described.{described_type}
use Rattle.policy_validate.specs.Descriptions.{with_basename}
use Rattle.policy_validate.proofs.schema.CoreSchemaSchema.entity_types_with_basename.Given as goal

abbrev pub invariant-loop-declared : goal.invariant-loop-declared
invariant-loop-declared l = l.names.items ≡ with_basename l.basename (map (described_type l.self) (take l.declared-index l.self.entity_types))
