use Rattle.std.proofs.Common.{◌≡◌, map, take, Some}
use Rattle.entity_files.specs.Rows.{shown_entity}
use Rattle.entity_files.proofs.rows.read_all.Given as goal

abbrev pub invariant-loop-row : goal.invariant-loop-row
invariant-loop-row l = map shown_entity (take l.row-index l.row-items) ≡ map Some l.entities.items
