use Rattle.std.proofs.Common.{◌≡◌, ◌++◌}
use Rattle.std.specs.Vec.Iter.{into_iter_items}
use Rattle.reads_spec.specs.Reads.{with_step}
use Rattle.path_analysis.proofs.result.add_longer_ones.Given as goal

-- what was added, and what is left
abbrev pub invariant-loop-path : goal.invariant-loop-path
invariant-loop-path l = l.reads.items ++ with_step (into_iter_items l.path-iterator) ≡ l.fn.reads.items ++ with_step l.fn.found.items
