use Rattle.std.proofs.Common.{◌≡◌, drop}
use Rattle.typing_spec.specs.Table.{is_function, functions_in}
use Rattle.typing_spec.proofs.gathered.have_function.Given as goal

-- what is left has the answer of the whole
abbrev pub invariant-loop-schema : goal.invariant-loop-schema
invariant-loop-schema l = is_function (functions_in (drop l.schema-index l.extension_schemas)) l.name ≡ is_function (functions_in l.extension_schemas) l.name
