use Rattle.std.proofs.Common.{◌≡◌, ℕ, ◌≤◌, List, slice_index}
use Rattle.policy_core.specs.Pieces.{IsFound}
use Rattle.policy_core.proofs.PieceSteps.{IsTried}
use Rattle.policy_core.proofs.pieces.next.Given as goal

abbrev pub invariant-shorter : goal.invariant-shorter
invariant-shorter l = record {
  at_most : l.found ≤ l.fn.found;
  tried : (text : List ℕ) (s i : ℕ) → slice_index text i ≡ l.c → IsFound l.piece text s i l.fn.found → IsTried l.piece text s i l.found;
}

abbrev pub decreases-shorter : goal.decreases-shorter
decreases-shorter l = l.found
