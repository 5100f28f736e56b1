use Rattle.std.proofs.Common.{◌≡◌, ◌++◌, map}
use Rattle.std.specs.List.{flat_map}
use Rattle.schema_core.specs.Environments.{environments_at}
use Rattle.schema_core.specs.RequestEnvs.{env_data_of}
use Rattle.link_spec.specs.Linked.{linked_envs_at, linked_envs_of}
use Rattle.policy_typecheck.proofs.environments.add_of_action.Given as goal

-- the environments so far, and those of the principal types that are left
abbrev pub invariant-loop-principal : goal.invariant-loop-principal
invariant-loop-principal l =
    map env_data_of l.envs.items ++ flat_map (linked_envs_at l.schema l.t l.action) (flat_map (environments_at l.action) l.principal-iterator) ≡ map env_data_of l.initial.envs.items ++ linked_envs_of l.schema l.t l.action
