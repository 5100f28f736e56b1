use Rattle.std.proofs.Common.{◌≡◌, ◌++◌, map}
use Rattle.policy_typecheck.specs.Added.{holds}
use Rattle.policy_typecheck.specs.Missing.{equal_errors}
use Rattle.policy_typecheck.proofs.added.known_among.Given as goal

-- what is left is still to be marked
abbrev pub invariant-loop-error : goal.invariant-loop-error
invariant-loop-error l = l.known.items ++ map (holds equal_errors l.fn.errors) l.error-iterator ≡ map (holds equal_errors l.fn.errors) l.fn.found.keys
