use Rattle.std.proofs.Common.{◌≡◌, ◌++◌, map}
use Rattle.schema_core.specs.Arranged.{arranged_type}
use Rattle.schema_core.proofs.arrange.arranged_types.Given as goal

abbrev pub invariant-loop-name : goal.invariant-loop-name
invariant-loop-name l = l.list.items ++ map (arranged_type l.types.entries) l.name-iterator ≡ map (arranged_type l.types.entries) l.fn.kinds.entries
