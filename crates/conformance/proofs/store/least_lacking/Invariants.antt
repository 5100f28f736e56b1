use Rattle.std.proofs.Common.{◌≡◌, true, take}
use Rattle.std.specs.Option.{option_copied}
use Rattle.policy_values.specs.Least.{IsLeastIfAny}
use Rattle.policy_values.specs.Uid.{uid_cmp}
use Rattle.conformance.specs.StoreRules.{lacks}
use Rattle.conformance.proofs.store.least_lacking.Given as goal

-- the least for the actions so far
abbrev pub invariant-loop-action : goal.invariant-loop-action
invariant-loop-action l = IsLeastIfAny uid_cmp (λ q. lacks (take l.action-index l.action-items) l.entities q ≡ true) (option_copied l.least)
