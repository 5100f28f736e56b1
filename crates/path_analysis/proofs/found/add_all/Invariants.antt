use Rattle.std.proofs.Common.{◌≡◌}
use Rattle.std.specs.Vec.Iter.{into_iter_items}
use Rattle.path_analysis.specs.PathOrder.{with_paths}
use Rattle.path_analysis.proofs.found.add_all.Given as goal

-- what was added, and what is left
abbrev pub invariant-loop-path : goal.invariant-loop-path
invariant-loop-path l = with_paths l.reads.keys (into_iter_items l.path-iterator) ≡ with_paths l.fn.reads.keys l.fn.paths.items
