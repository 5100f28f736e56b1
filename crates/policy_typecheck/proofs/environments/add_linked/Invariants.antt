use Rattle.std.proofs.Common.{◌≡◌, ◌++◌, map, drop}
use Rattle.std.specs.List.{flat_map}
use Rattle.std.specs.Option.{option_copied}
use Rattle.schema_core.specs.Environments.{environment}
use Rattle.schema_core.specs.RequestEnvs.{env_data_of}
use Rattle.link_spec.specs.Linked.{linked_env}
use Rattle.policy_typecheck.proofs.environments.add_linked.Given as goal

-- the environments so far, and those with the types that are left
abbrev pub invariant-loop-slot : goal.invariant-loop-slot
invariant-loop-slot l =
    map env_data_of l.envs.items ++ flat_map (λ p. map (linked_env l.action (environment l.principal l.action.name l.resource) p) (map option_copied l.resource_slots.items)) (map option_copied (drop l.slot-index l.slot-items)) ≡ map env_data_of l.initial.envs.items ++ flat_map (λ p. map (linked_env l.action (environment l.principal l.action.name l.resource) p) (map option_copied l.resource_slots.items)) (map option_copied l.slot-items)
