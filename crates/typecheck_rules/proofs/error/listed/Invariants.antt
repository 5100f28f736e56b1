use Rattle.std.proofs.Common.{◌≡◌, ◌++◌}
use Rattle.typecheck_rules.proofs.error.listed.Given as goal

-- the types so far, and those of what is left
abbrev pub invariant-loop-t : goal.invariant-loop-t
invariant-loop-t l = l.listed.items ++ l.t-iterator ≡ l.fn.types.keys
