use Rattle.std.proofs.Common.{◌≡◌, ◌++◌, drop}
use Rattle.policy_typecheck.specs.Pointed.{pointed}
use Rattle.policy_typecheck.proofs.met.every.Given as goal

-- the actions so far, and those that are left
abbrev pub invariant-loop-action : goal.invariant-loop-action
invariant-loop-action l = pointed l.met.items ++ drop l.action-index l.actions ≡ l.actions
