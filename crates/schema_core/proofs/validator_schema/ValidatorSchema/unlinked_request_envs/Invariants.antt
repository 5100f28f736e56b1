use Rattle.std.proofs.Common.{◌≡◌, map, take}
use Rattle.std.specs.List.{flat_map}
use Rattle.schema_core.specs.EnvData.{unlinked_of}
use Rattle.schema_core.specs.RequestEnvs.{env_data_of}
use Rattle.schema_core.proofs.validator_schema.ValidatorSchema.unlinked_request_envs.Given as goal

abbrev pub invariant-loop-action : goal.invariant-loop-action
invariant-loop-action l = map env_data_of l.envs.items ≡ flat_map unlinked_of (take l.action-index l.self.action_ids)
