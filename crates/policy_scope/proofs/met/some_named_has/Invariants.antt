use Rattle.std.proofs.Common.{◌≡◌}
use Rattle.std.specs.List.{list_any}
use Rattle.policy_values.specs.Uid.{uid_eq}
use Rattle.policy_scope.specs.Met.{some_has}
use Rattle.policy_scope.proofs.met.some_named_has.Given as goal

-- those that are left decide
abbrev pub invariant-loop-uid : goal.invariant-loop-uid
invariant-loop-uid l = list_any (λ u. some_has l.schema l.asked (λ a. uid_eq u a.name)) l.uid-iterator ≡ list_any (λ u. some_has l.schema l.asked (λ a. uid_eq u a.name)) l.uids.keys
