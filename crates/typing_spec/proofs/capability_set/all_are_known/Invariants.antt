use Rattle.std.proofs.Common.{◌≡◌, drop}
use Rattle.typing_spec.specs.Capability.{is_covered, together}
use Rattle.typing_spec.proofs.capability_set.all_are_known.Given as goal

-- what is left decides
abbrev pub invariant-loop-part : goal.invariant-loop-part
invariant-loop-part l = is_covered (together (drop l.part-index l.parts.items)) l.other ≡ is_covered (together l.parts.items) l.other
