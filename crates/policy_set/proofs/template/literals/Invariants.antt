use Rattle.std.proofs.Common.{◌≡◌, ◌++◌, map, drop}
use Rattle.policy_set.specs.Condition.{id_literal}
use Rattle.policy_set.proofs.template.literals.Given as goal

-- those so far, and then those of the ids that are left
abbrev pub invariant-loop-uid : goal.invariant-loop-uid
invariant-loop-uid l = l.literals.items ++ map id_literal (drop l.uid-index l.uids) ≡ map id_literal l.uids
