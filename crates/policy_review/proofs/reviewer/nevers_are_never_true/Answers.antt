use Rattle.policy_review.proofs.reviewer.nevers_are_never_true.Goals as goal

pub returns : goal.returns
returns c = λ accepted.
    c.never_is_never_true.ensures c.args.schema.now c.action_ids-actions.ensures.schema c.args.policies.now c.is_policy_set.ensures c.have_keys_once.ensures accepted
