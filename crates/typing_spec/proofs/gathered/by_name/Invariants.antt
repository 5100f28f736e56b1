use Rattle.std.proofs.Common.{take}
use Rattle.typing_spec.specs.ByName.{pointed}
use Rattle.typing_spec.proofs.ByName.{AreGathered}
use Rattle.typing_spec.proofs.gathered.by_name.Given as goal

abbrev pub invariant-loop-function : goal.invariant-loop-function
invariant-loop-function l = AreGathered (pointed (take l.function-index l.functions)) l.by_name
