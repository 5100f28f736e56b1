use Rattle.std.proofs.Common.{◌≡◌, take}
use Rattle.std.specs.List.{filter}
use Rattle.typing_spec.specs.Capability.{together}
use Rattle.typing_spec.specs.Recovered.{lends}
use Rattle.typing_spec.proofs.known.all_held.Given as goal

abbrev pub invariant-loop-part : goal.invariant-loop-part
invariant-loop-part l = l.items.items ≡ filter (lends l.held.keys) (together (take l.part-index l.parts.items))
