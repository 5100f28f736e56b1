use Rattle.entity_loader.specs.Asked.{by_tag, some_along}
use Rattle.entity_loader.proofs.CutSteps.{IsCutting}
use Rattle.entity_loader.proofs.cut.cut_all.Given as goal

abbrev pub invariant-loop-key : goal.invariant-loop-key
invariant-loop-key l = IsCutting (by_tag (some_along l.nodes l.numbers)) l.values.entries l.key-iterator l.kept.entries
