use Rattle.std.proofs.Common.{◌≡◌, drop}
use Rattle.typing_spec.specs.Capability.{is_covered}
use Rattle.typing_spec.proofs.capability_set.are_known.Given as goal

-- what is left decides
abbrev pub invariant-loop-k : goal.invariant-loop-k
invariant-loop-k l = is_covered (drop l.k-index l.items.items) l.other ≡ is_covered l.items.items l.other
