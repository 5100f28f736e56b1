use Rattle.std.proofs.Common.{take}
use Rattle.entity_loader.specs.Answers.{IsListed}
use Rattle.entity_loader.proofs.slicer.ancestors_among.Given as goal

abbrev pub invariant-loop-id : goal.invariant-loop-id
invariant-loop-id l = IsListed l.entity.ancestors (take l.id-index l.ids) l.found.items
