use Rattle.std.proofs.Common.{true, take}
use Rattle.std.specs.List.{AllZip}
use Rattle.entity_loader.specs.Answers.{IsHonestList}
use Rattle.entity_loader.proofs.slicer.ancestor_lists.Given as goal

abbrev pub invariant-loop-request : goal.invariant-loop-request
invariant-loop-request l = AllZip (IsHonestList true l.entities) (take l.request-index l.request-items) l.found.items
