use Rattle.std.proofs.Common.{◌≡◌, length}
use Rattle.policy_core.specs.Pieces.{IsFound, AreBorders}
use Rattle.policy_core.proofs.pieces.borders_of.Given as goal

abbrev pub invariant-loop-i : goal.invariant-loop-i
invariant-loop-i l = record {
  length : length l.borders.items ≡ l.i;
  borders : AreBorders l.piece l.borders.items;
  found : IsFound l.piece l.piece 1 l.i l.found;
}
