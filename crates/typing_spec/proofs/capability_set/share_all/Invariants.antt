use Rattle.std.proofs.Common.{◌≡◌, ◌++◌, take}
use Rattle.typing_spec.specs.Capability.{together}
use Rattle.typing_spec.proofs.capability_set.share_all.Given as goal

abbrev pub invariant-loop-part : goal.invariant-loop-part
invariant-loop-part l = together l.parts.items ≡ together l.initial.parts.items ++ together (take l.part-index l.others.items)
