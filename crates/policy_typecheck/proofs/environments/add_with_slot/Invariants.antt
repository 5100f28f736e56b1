use Rattle.std.proofs.Common.{◌≡◌, ◌++◌, map, drop}
use Rattle.std.specs.Option.{option_copied}
use Rattle.schema_core.specs.Environments.{environment}
use Rattle.schema_core.specs.RequestEnvs.{env_data_of}
use Rattle.link_spec.specs.Linked.{linked_env}
use Rattle.policy_typecheck.proofs.environments.add_with_slot.Given as goal

-- the environments so far, and those with the types that are left
abbrev pub invariant-loop-slot : goal.invariant-loop-slot
invariant-loop-slot l =
    map env_data_of l.envs.items ++ map (linked_env l.action (environment l.principal l.action.name l.resource) (option_copied l.principal_slot)) (map option_copied (drop l.slot-index l.resource_slots.items)) ≡ map env_data_of l.initial.envs.items ++ map (linked_env l.action (environment l.principal l.action.name l.resource) (option_copied l.principal_slot)) (map option_copied l.resource_slots.items)
