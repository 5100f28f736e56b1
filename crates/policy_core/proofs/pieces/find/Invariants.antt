use Rattle.std.proofs.Common.{◌≤◌, length}
use Rattle.policy_core.specs.Pieces.{IsFound}
use Rattle.policy_core.proofs.pieces.find.Given as goal

abbrev pub invariant-loop-i : goal.invariant-loop-i
invariant-loop-i l = record {
  at_most : l.found ≤ length l.piece;
  found : IsFound l.piece l.text 0 l.i l.found;
}
