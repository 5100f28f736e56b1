use Rattle.std.proofs.Common.{◌≡◌, drop}
use Rattle.typing_spec.specs.Signatures.{same_types}
use Rattle.typecheck_rules.proofs.calls.are_same_types.Given as goal

-- what is left of both decides
abbrev pub invariant-loop-t : goal.invariant-loop-t
invariant-loop-t l = same_types (drop l.t-index l.types) l.rest.rest.now ≡ same_types l.types l.expected
