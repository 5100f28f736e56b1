use Rattle.std.proofs.Common.{◌≡◌, [], ◌++◌, map}
use Rattle.std.specs.Prelude.{Ok}
use Rattle.std.specs.Vec.Iter.{into_iter_items}
use Rattle.findings.specs.NonEmpty.{errors_in}
use Rattle.findings.proofs.nonempty.partition_nonempty.Given as goal

-- the errors so far and those of the results that are left are all; while there is none, so are the values
abbrev pub invariant-loop-result : goal.invariant-loop-result
invariant-loop-result g l = record {
  errors : l.errors.items ++ errors_in (into_iter_items l.result-iterator) ≡ errors_in l.fn.results.items;
  values : l.errors.items ≡ [] → map Ok l.values.items ++ into_iter_items l.result-iterator ≡ l.fn.results.items;
}
