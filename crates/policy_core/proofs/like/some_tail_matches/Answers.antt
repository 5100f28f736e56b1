use Rattle.std.proofs.Common.{◌++◌, ◌∷◌, map, sym, ap, subst, ◌∙◌}
use Rattle.policy_expressions.specs.declared.kinds.PatternElem.TheVariants.{Char, Wildcard}
use Rattle.policy_core.specs.Like.{some_tail, matches}
use Rattle.policy_core.specs.Pieces.{IsEnd, pattern_left}
use Rattle.policy_core.proofs.LikeSteps.{piece_found, not_found}
use Rattle.policy_core.proofs.like.some_tail_matches.Goals as goal

pub returns-in-None-2 : goal.returns-in-None-2
returns-in-None-2 c =
    let piece = c.as_slice-in-Some.result.now in
    let text = c.pieces.text.now in
    let left = c.in-Some.left.now in
    let nowhere = subst (IsEnd piece text) c.in-None-2.is c.in_ok-end-in-Some.ensures in
    let whole = c.in_ok-piece.ensures ∙ ap (λ l. map Char c.in_ok-piece.piece.chars.items ++ pattern_left l) c.in-Some.is ∙ ap (λ cs. map Char cs ++ (Wildcard ∷ left)) (sym c.as_slice-in-Some.ensures.value) in
    sym (not_found (Wildcard ∷ left) piece text nowhere.0 nowhere.1 nowhere.2) ∙ ap (λ p. some_tail (matches p) text) (sym whole) ∙ c.pieces.invariant

pub pieces-preserved : goal.pieces-preserved
pieces-preserved c =
    let piece = c.as_slice-in-Some.result.now in
    let text = c.pieces.text.now in
    let left = c.in-Some.left.now in
    let end = subst (IsEnd piece text) c.in-Some-2.is c.in_ok-end-in-Some.ensures in
    let whole = c.in_ok-piece.ensures ∙ ap (λ l. map Char c.in_ok-piece.piece.chars.items ++ pattern_left l) c.in-Some.is ∙ ap (λ cs. map Char cs ++ (Wildcard ∷ left)) (sym c.as_slice-in-Some.ensures.value) in
    ap (some_tail (matches left)) c.split_at.ensures.back ∙ sym (piece_found left piece text c.in-Some-2.end end.0 end.1) ∙ ap (λ p. some_tail (matches p) text) (sym whole) ∙ c.pieces.invariant
