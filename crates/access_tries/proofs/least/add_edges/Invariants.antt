use Rattle.std.proofs.Common.{◌≡◌, ◌++◌, ◌∷◌, map, take}
use Rattle.access_tries.specs.declared.edge.Edge.TheVariants.{Root}
use Rattle.access_tries.specs.Paths.{edge_of}
use Rattle.access_tries.proofs.least.add_edges.Given as goal

abbrev pub invariant-loop-step : goal.invariant-loop-step
invariant-loop-step l = l.edges.items ≡ l.fn.edges.items ++ Root l.path.root ∷ map edge_of (take l.step-index l.step-items)
