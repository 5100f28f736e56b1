use Rattle.std.proofs.Common.{◌≡◌, ◌++◌, map}
use Rattle.std.specs.List.{flat_map}
use Rattle.schema_core.specs.Environments.{environments_at}
use Rattle.schema_core.specs.EnvData.{unlinked, unlinked_of}
use Rattle.schema_core.specs.RequestEnvs.{env_data_of}
use Rattle.schema_core.proofs.request_env.add_environments.Given as goal

abbrev pub invariant-loop-principal : goal.invariant-loop-principal
invariant-loop-principal l = map env_data_of l.envs.items ++ map (unlinked l.action) (flat_map (environments_at l.action) l.principal-iterator) ≡ map env_data_of l.initial.envs.items ++ unlinked_of l.action
