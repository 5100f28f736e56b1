use Rattle.std.proofs.Common.{◌+◌, length, arith, sym, subst, ap, ◌∙◌}
use Rattle.std.proofs.lemmas.List.{length_push}
use Rattle.policy_core.specs.Pieces.{IsFound}
use Rattle.policy_core.proofs.PieceSteps.{none_yet, border_added, read_at}
use Rattle.policy_core.proofs.pieces.borders_of.Goals as goal
use Rattle.policy_core.proofs.pieces.borders_of.Goals.{then-i-gt0, else-i-gt0}

pub loop-i-preserved : goal.loop-i-preserved
loop-i-preserved c =
    let piece = c.args.piece.now in
    let i = c.loop-i.i in
    let known = c.loop-i.invariant in
    let items = c.in_ok-push.ensures.items in
    record {
      length = ap length items ∙ length_push c.loop-i.borders.items c.loop-i.found ∙ ap (λ n. n + 1) known.length;
      borders = border_added piece c.loop-i.borders.items _ c.loop-i.found items known.borders (subst (λ n. IsFound piece piece 1 n c.loop-i.found) (sym known.length) known.found);
      found = elim c.if-i-gt0.branch [
        | then-i-gt0 w ↦ subst (IsFound piece piece 1 (i + 1)) (sym w.found-is) (w.next-found.ensures.next piece 1 i (omega arith) (read_at piece i w.index-piece-i.result (omega arith) w.index-piece-i.is) known.found)
        | else-i-gt0 w ↦ subst (IsFound piece piece 1 (i + 1)) (let short = known.found.short in omega arith) (none_yet piece piece 1 (i + 1) (omega arith))
      ];
    }
