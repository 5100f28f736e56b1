use Rattle.std.proofs.Common.{◌≡◌, IfOk, sym, ap, subst, ◌∙◌}
use Rattle.policy_core.proofs.LikeSteps.{matches_left, matches_behind}
use Rattle.policy_core.proofs.like.matches.Goals as goal

pub returns-in-Wildcard : goal.returns-in-Wildcard
returns-in-Wildcard c =
    subst (λ m. IfOk c.some_tail_matches.result (λ b. b ≡ m)) (ap matches_left c.in-Wildcard.ensures ∙ sym (matches_behind c.args.pattern.now c.args.text.now)) c.some_tail_matches.ensures

pub returns-in-Whole : goal.returns-in-Whole
returns-in-Whole c =
    ap matches_left c.in-Whole.ensures ∙ sym (matches_behind c.args.pattern.now c.args.text.now)

pub returns-in-Nothing : goal.returns-in-Nothing
returns-in-Nothing c =
    ap matches_left c.in-Nothing.ensures ∙ sym (matches_behind c.args.pattern.now c.args.text.now)
