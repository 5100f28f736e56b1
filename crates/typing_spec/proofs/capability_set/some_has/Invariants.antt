use Rattle.std.proofs.Common.{◌≡◌, drop}
use Rattle.typing_spec.specs.Capability.{has_cap, together}
use Rattle.typing_spec.proofs.capability_set.some_has.Given as goal

-- what is left decides
abbrev pub invariant-loop-part : goal.invariant-loop-part
invariant-loop-part l = has_cap (together (drop l.part-index l.parts.items)) l.e ≡ has_cap (together l.parts.items) l.e
