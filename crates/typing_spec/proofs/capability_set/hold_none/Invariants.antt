use Rattle.std.proofs.Common.{◌≡◌, drop}
use Rattle.typing_spec.specs.Capability.{is_nothing, together}
use Rattle.typing_spec.proofs.capability_set.hold_none.Given as goal

-- what is left decides
abbrev pub invariant-loop-part : goal.invariant-loop-part
invariant-loop-part l = is_nothing (together (drop l.part-index l.parts.items)) ≡ is_nothing (together l.parts.items)
