use Rattle.std.proofs.Common.{◌≡◌, ◌++◌, map, drop}
use Rattle.std.specs.List.{flat_map}
use Rattle.schema_core.specs.RequestEnvs.{env_data_of}
use Rattle.link_spec.specs.Linked.{linked_envs, linked_envs_of}
use Rattle.policy_typecheck.proofs.environments.linked_request_envs.Given as goal

-- the environments so far, and those of the actions that are left
abbrev pub invariant-loop-action : goal.invariant-loop-action
invariant-loop-action l = map env_data_of l.envs.items ++ flat_map (linked_envs_of l.schema l.t) (drop l.action-index l.schema.action_ids) ≡ linked_envs l.schema l.t
