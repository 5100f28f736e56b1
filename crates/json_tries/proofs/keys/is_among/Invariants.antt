use Rattle.std.proofs.Common.{◌≡◌, drop}
use Rattle.std.specs.List.{list_any}
use Rattle.access_tries.specs.Edges.{edge_eq}
use Rattle.json_tries.proofs.keys.is_among.Given as goal

abbrev pub invariant-loop-other : goal.invariant-loop-other
invariant-loop-other l = list_any (λ f. edge_eq f l.edge) (drop l.other-index l.edges) ≡ list_any (λ f. edge_eq f l.edge) l.edges
