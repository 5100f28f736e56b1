use Rattle.std.proofs.Common.{◌≡◌, ◌++◌, take}
use Rattle.typing_spec.specs.ByName.{pointed}
use Rattle.typing_spec.proofs.gathered.add_functions.Given as goal

abbrev pub invariant-loop-function : goal.invariant-loop-function
invariant-loop-function l = pointed l.functions.items ≡ pointed l.initial.functions.items ++ take l.function-index l.added
