use Rattle.std.proofs.Common.{[], ◌∷◌, ◌++◌, ap, sym, ◌∙◌}
use Rattle.std.proofs.lemmas.Bool.{not-true, not-false}
use Rattle.std.specs.Option.{option_map_or}
use Rattle.policy_scope.specs.Names.{enum_cmp}
use Rattle.policy_scope.proofs.Made.{enum_made, enum_made_total, enum_found}
use Rattle.policy_scope.proofs.Once.{once_new, once_old}
use Rattle.policy_scope.proofs.names.unlisted_ids_in.Goals as goal

pub loop-mention-preserved-in_ok-push : goal.loop-mention-preserved-in_ok-push
loop-mention-preserved-in_ok-push c =
    let made = enum_found c.args.schema.now c.args.policy_id.now (c.in-Id.uid, c.in-Some.loc) c.in-Some-choices_without.choices.now (sym c.in-Some-choices_without.ensures) in
    let before = rw made at (rw c.in-Id.is at (rw c.in-Some.ensures.steps.0 at c.loop-mention.invariant)) in
    once_new enum_cmp (enum_made c.args.schema.now c.args.policy_id.now) (enum_made_total c.args.schema.now c.args.policy_id.now) (c.in-Id.uid, c.in-Some.loc) _ before
    (not-true _ (sym c.in_ok-insert.ensures.added ∙ c.if-branch.true))
    c.in_ok-insert.ensures.updates.0
    (c.in_ok-push.ensures.items ∙ ap (λ f. c.loop-mention.found.items ++ f ∷ []) (λ i. record {
      source_loc = c.in-Some.loc;
      policy_id = c.in_ok-try_clone.ensures i;
      err = (c.in_ok-unlisted.ensures ∙ ap (λ o. record { uid = c.in-Id.uid.now; choices = option_map_or (λ choices. choices) o [] }) c.in-Some-choices_without.ensures) i;
    }))

pub loop-mention-preserved : goal.loop-mention-preserved
loop-mention-preserved c =
    let made = enum_found c.args.schema.now c.args.policy_id.now (c.in-Id.uid, c.in-Some.loc) c.in-Some-choices_without.choices.now (sym c.in-Some-choices_without.ensures) in
    let before = rw made at (rw c.in-Id.is at (rw c.in-Some.ensures.steps.0 at c.loop-mention.invariant)) in
    once_old enum_cmp (enum_made c.args.schema.now c.args.policy_id.now) (enum_made_total c.args.schema.now c.args.policy_id.now) (c.in-Id.uid, c.in-Some.loc) before
    (not-false _ (sym c.in_ok-insert.ensures.added ∙ c.if-branch.false))
    (rw c.if-branch.false at c.in_ok-insert.ensures.unchanged)
