use Rattle.std.proofs.Common.{◌≡◌, ◌++◌, map}
use Rattle.schema_core.specs.Environments.{environment, environments_at}
use Rattle.schema_core.specs.EnvData.{unlinked}
use Rattle.schema_core.specs.RequestEnvs.{env_data_of}
use Rattle.schema_core.proofs.request_env.add_resources.Given as goal

abbrev pub invariant-loop-resource : goal.invariant-loop-resource
invariant-loop-resource l = map env_data_of l.envs.items ++ map (unlinked l.action) (map (environment l.principal l.action.name) l.resource-iterator) ≡ map env_data_of l.initial.envs.items ++ map (unlinked l.action) (environments_at l.action l.principal)
