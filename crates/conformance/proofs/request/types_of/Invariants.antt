use Rattle.std.proofs.Common.{◌≡◌, ◌++◌}
use Rattle.conformance.proofs.request.types_of.Given as goal

-- the types so far, and then those that are left
abbrev pub invariant-loop-ty : goal.invariant-loop-ty
invariant-loop-ty l = l.types.items ++ l.ty-iterator ≡ l.set.keys
