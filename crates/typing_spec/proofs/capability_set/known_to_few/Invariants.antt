use Rattle.std.proofs.Common.{◌≡◌, take}
use Rattle.typing_spec.specs.Capability.{common, together}
use Rattle.typing_spec.proofs.capability_set.known_to_few.Given as goal

abbrev pub invariant-loop-part : goal.invariant-loop-part
invariant-loop-part l = l.items.items ≡ common (together (take l.part-index l.parts.items)) l.other
