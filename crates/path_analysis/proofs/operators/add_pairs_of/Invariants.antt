use Rattle.std.proofs.Common.{◌≡◌, map, drop}
use Rattle.path_analysis.specs.PathOrder.{with_demands}
use Rattle.path_analysis.proofs.operators.add_pairs_of.Given as goal

-- what was added, and what is left
abbrev pub invariant-loop-path : goal.invariant-loop-path
invariant-loop-path l = with_demands l.demands.keys (map (λ r. (l.from, r)) (drop l.path-index l.to)) ≡ with_demands l.fn.demands.keys (map (λ r. (l.from, r)) l.to)
