use Rattle.std.proofs.Common.{◌↔◌, [], ◌++◌}
use Rattle.std.specs.List.{AllByRecursion}
use Rattle.schema_core.specs.RequestEnvs.{env_data_of}
use Rattle.policy_set.specs.PolicySet.{IsLinkedIn}
use Rattle.policy_validate.specs.AcceptanceLaws.{LeavesAll}
use Rattle.policy_validate.specs.Found.{found_conditions}
use Rattle.manifest_computation.specs.Gathered.{AreHeld, HoldSame}
use Rattle.manifest_computation.proofs.gathering.trie_of_policies.Given as goal

-- what was added, what is kept and what is left are all, and checks leave all where they leave what is left
abbrev pub invariant-loop-policy : goal.invariant-loop-policy
invariant-loop-policy l =
    HoldSame l.schema (env_data_of l.env) l.trie (l.conditions.items ++ found_conditions l.schema (env_data_of l.env) l.policy-iterator) [] (found_conditions l.schema (env_data_of l.env) l.policies.policies)
    × (LeavesAll l.schema l.policy-iterator (env_data_of l.env) ↔ LeavesAll l.schema l.policies.policies (env_data_of l.env))
    × AllByRecursion (IsLinkedIn l.policies) l.policy-iterator
    × AreHeld l.schema (env_data_of l.env) l.policies l.bodies l.trie l.conditions.items
