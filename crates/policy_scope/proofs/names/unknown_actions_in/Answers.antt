use Rattle.std.proofs.Common.{[], ◌∷◌, ◌++◌, ap, sym, ◌∙◌}
use Rattle.std.proofs.lemmas.Bool.{not-true, not-false}
use Rattle.policy_scope.specs.Names.{action_id_cmp}
use Rattle.policy_scope.proofs.Made.{action_made, action_made_total}
use Rattle.policy_scope.proofs.Once.{once_new, once_old}
use Rattle.policy_scope.proofs.names.unknown_actions_in.Goals as goal

pub loop-mention-preserved-in_ok-push : goal.loop-mention-preserved-in_ok-push
loop-mention-preserved-in_ok-push c =
    let unknown = sym c.is_known_action.ensures ∙ c.if-is_known_action.false in
    let before = rw unknown at (rw c.in-Id.is at (rw c.in-Some.ensures.steps.0 at c.loop-mention.invariant)) in
    once_new action_id_cmp (action_made c.args.schema.now c.args.policy_id.now) (action_made_total c.args.schema.now c.args.policy_id.now) (c.in-Id.uid, c.in-Some.loc) _ before
    (not-true _ (sym c.in_ok-insert.ensures.added ∙ c.if-branch.true))
    c.in_ok-insert.ensures.updates.0
    (c.in_ok-push.ensures.items ∙ ap (λ f. c.loop-mention.found.items ++ f ∷ []) (λ i. record { source_loc = c.in-Some.loc; policy_id = c.in_ok-try_clone.ensures i; actual_action_id = c.in_ok-try_clone-2.ensures i; hint = c.in_ok-unrecognized_action_id_help.ensures i }))

pub loop-mention-preserved : goal.loop-mention-preserved
loop-mention-preserved c =
    let unknown = sym c.is_known_action.ensures ∙ c.if-is_known_action.false in
    let before = rw unknown at (rw c.in-Id.is at (rw c.in-Some.ensures.steps.0 at c.loop-mention.invariant)) in
    once_old action_id_cmp (action_made c.args.schema.now c.args.policy_id.now) (action_made_total c.args.schema.now c.args.policy_id.now) (c.in-Id.uid, c.in-Some.loc) before
    (not-false _ (sym c.in_ok-insert.ensures.added ∙ c.if-branch.false))
    (rw c.if-branch.false at c.in_ok-insert.ensures.unchanged)
