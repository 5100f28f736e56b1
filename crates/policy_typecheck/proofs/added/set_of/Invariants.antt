use Rattle.std.proofs.Common.{◌≡◌, ◌||◌, drop}
use Rattle.policy_typecheck.specs.Added.{holds}
use Rattle.policy_typecheck.specs.Missing.{lends, equal_errors}
use Rattle.findings.specs.declared.error.ValidationError.{ValidationError}
use Rattle.policy_typecheck.proofs.added.set_of.Given as goal

-- what is held, or left, is among the items
abbrev pub invariant-loop-error : goal.invariant-loop-error
invariant-loop-error l = (x : ValidationError) → (lends equal_errors l.held.keys x || holds equal_errors (drop l.error-index l.errors) x) ≡ holds equal_errors l.errors x
