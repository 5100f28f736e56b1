use Rattle.std.proofs.Common.{◌≡◌, drop}
use Rattle.reads_spec.specs.Reads.{pairs}
use Rattle.path_analysis.specs.PathOrder.{with_demands}
use Rattle.path_analysis.proofs.operators.add_pairs.Given as goal

-- what was added, and what is left
abbrev pub invariant-loop-path : goal.invariant-loop-path
invariant-loop-path l = with_demands l.demands.keys (pairs (drop l.path-index l.from) l.to) ≡ with_demands l.fn.demands.keys (pairs l.from l.to)
