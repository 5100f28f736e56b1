use Rattle.std.proofs.Common.{◌≡◌, drop}
use Rattle.typing_spec.specs.Capability.{has_cap}
use Rattle.typing_spec.proofs.part.has_equal.Given as goal

-- what is left decides
abbrev pub invariant-loop-k : goal.invariant-loop-k
invariant-loop-k l = has_cap (drop l.k-index l.items.items) l.e ≡ has_cap l.items.items l.e
