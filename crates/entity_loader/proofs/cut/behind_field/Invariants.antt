use Rattle.std.proofs.Common.{take}
use Rattle.access_tries.specs.declared.edge.Edge.TheVariants.{Field}
use Rattle.entity_loader.specs.Asked.{AreBelow}
use Rattle.entity_loader.proofs.cut.behind_field.Given as goal

abbrev pub invariant-loop-number : goal.invariant-loop-number
invariant-loop-number l = AreBelow (Field l.name) l.nodes (take l.number-index l.numbers) l.below.items
