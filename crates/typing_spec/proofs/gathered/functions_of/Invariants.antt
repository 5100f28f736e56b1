use Rattle.std.proofs.Common.{◌≡◌, take}
use Rattle.typing_spec.specs.Table.{functions_in}
use Rattle.typing_spec.specs.ByName.{pointed}
use Rattle.typing_spec.proofs.gathered.functions_of.Given as goal

abbrev pub invariant-loop-schema : goal.invariant-loop-schema
invariant-loop-schema l = pointed l.functions.items ≡ functions_in (take l.schema-index l.extension_schemas)
