use Rattle.std.proofs.Common.{[], ◌∷◌, ◌++◌, ap, sym, ◌∙◌}
use Rattle.std.proofs.lemmas.Bool.{not-true, not-false}
use Rattle.policy_scope.specs.Names.{entity_type_cmp}
use Rattle.policy_scope.proofs.Made.{type_made, type_made_total}
use Rattle.policy_scope.proofs.Once.{once_new, once_old}
use Rattle.policy_scope.proofs.names.unknown_types.Goals as goal

pub loop-mention-preserved-in_ok-push : goal.loop-mention-preserved-in_ok-push
loop-mention-preserved-in_ok-push c =
    let unknown = sym c.is_known_type.ensures ∙ c.if-is_known_type.false in
    let before = rw unknown at (rw (← c.mentioned_type-ty.ensures) at (rw c.in-Some.ensures.steps.0 at c.loop-mention.invariant)) in
    once_new entity_type_cmp (type_made c.args.policy_id.now) (type_made_total c.args.policy_id.now) (c.mentioned_type-ty.result, c.in-Some.loc) _ before
    (not-true _ (sym c.in_ok-insert.ensures.added ∙ c.if-branch.true))
    c.in_ok-insert.ensures.updates.0
    (c.in_ok-push.ensures.items ∙ ap (λ f. c.loop-mention.found.items ++ f ∷ []) (λ i. record { source_loc = c.in-Some.loc; policy_id = c.in_ok-try_clone.ensures i; actual_entity_type = c.in_ok-try_clone-2.ensures i }))

pub loop-mention-preserved : goal.loop-mention-preserved
loop-mention-preserved c =
    let unknown = sym c.is_known_type.ensures ∙ c.if-is_known_type.false in
    let before = rw unknown at (rw (← c.mentioned_type-ty.ensures) at (rw c.in-Some.ensures.steps.0 at c.loop-mention.invariant)) in
    once_old entity_type_cmp (type_made c.args.policy_id.now) (type_made_total c.args.policy_id.now) (c.mentioned_type-ty.result, c.in-Some.loc) before
    (not-false _ (sym c.in_ok-insert.ensures.added ∙ c.if-branch.false))
    (rw c.if-branch.false at c.in_ok-insert.ensures.unchanged)
