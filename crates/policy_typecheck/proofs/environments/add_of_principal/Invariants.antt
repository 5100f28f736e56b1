use Rattle.std.proofs.Common.{◌≡◌, ◌++◌, map}
use Rattle.std.specs.List.{flat_map}
use Rattle.schema_core.specs.Environments.{environment, environments_at}
use Rattle.schema_core.specs.RequestEnvs.{env_data_of}
use Rattle.link_spec.specs.Linked.{linked_envs_at}
use Rattle.policy_typecheck.proofs.environments.add_of_principal.Given as goal

-- the environments so far, and those of the resource types that are left
abbrev pub invariant-loop-resource : goal.invariant-loop-resource
invariant-loop-resource l =
    map env_data_of l.envs.items ++ flat_map (linked_envs_at l.schema l.t l.action) (map (environment l.principal l.action.name) l.resource-iterator) ≡ map env_data_of l.initial.envs.items ++ flat_map (linked_envs_at l.schema l.t l.action) (environments_at l.action l.principal)
