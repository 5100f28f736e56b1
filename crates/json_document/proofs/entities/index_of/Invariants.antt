use Rattle.std.proofs.Common.{◌≡◌, drop}
use Rattle.json_document.specs.Entities.{index_from}
use Rattle.json_document.proofs.entities.index_of.Given as goal

-- counted on from here, what is left has the index
abbrev pub invariant-loop-id : goal.invariant-loop-id
invariant-loop-id l = record {
  counted : l.index ≡ l.id-index;
  rest : index_from l.index l.uid (drop l.id-index l.id-items) ≡ index_from 0 l.uid l.id-items;
}
