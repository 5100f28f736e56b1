use Rattle.std.proofs.Common.{◌≡◌, ◌||◌, drop}
use Rattle.typing_spec.specs.Capability.{Capability, has_cap}
use Rattle.typing_spec.specs.Recovered.{lends}
use Rattle.typing_spec.proofs.known.hold_all.Given as goal

-- what is held, or left, is known
abbrev pub invariant-loop-k : goal.invariant-loop-k
invariant-loop-k l = (k : Capability) → (lends l.held.keys k || has_cap (drop l.k-index l.items) k) ≡ (lends l.initial.held.keys k || has_cap l.items k)
