use Rattle.std.proofs.Common.{drop}
use Rattle.condition_compare.specs.Outlines.{state}
use Rattle.condition_compare.proofs.Growing.{IsGoingOn}
use Rattle.condition_compare.proofs.outliner.Outliner.decision.Given as goal

abbrev pub invariant-loop-condition : goal.invariant-loop-condition
invariant-loop-condition l =
    IsGoingOn (state l.fn.self.circuit.gates.items l.fn.self.atoms.asked.items) (state l.self.circuit.gates.items l.self.atoms.asked.items)
    l.permits l.forbids (drop l.condition-index l.conditions.items) l.conditions.items
