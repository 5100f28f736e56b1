use Rattle.std.proofs.Common.{◌≡◌, ◌||◌, drop}
use Rattle.typing_spec.specs.Capability.{Capability, has_cap, together}
use Rattle.typing_spec.specs.Recovered.{lends}
use Rattle.typing_spec.proofs.known.held_of.Given as goal

-- what is held, or left, is known
abbrev pub invariant-loop-part : goal.invariant-loop-part
invariant-loop-part l = (k : Capability) → (lends l.held.keys k || has_cap (together (drop l.part-index l.parts.items)) k) ≡ has_cap (together l.parts.items) k
