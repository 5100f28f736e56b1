use Rattle.std.proofs.Common.{◌≡◌, ◌++◌, drop, option_map}
use Rattle.typecheck_operators.specs.Parts.{types_given}
use Rattle.typecheck_operators.specs.Reported.{all_of}
use Rattle.typecheck_operators.proofs.parts.types_given.Given as goal

-- the types so far, and then those of what is left
abbrev pub invariant-loop-w : goal.invariant-loop-w
invariant-loop-w l = option_map (λ ts. l.types.items ++ ts) (types_given (all_of (drop l.w-index l.ws.items))) ≡ types_given (all_of l.ws.items)
