use Rattle.policy_validate.proofs.validator.typed_where_accepted.Goals as goal

pub returns : goal.returns
returns c = λ none.
    c.accepted_are_typed.ensures c.args.schema.now c.action_ids-actions.ensures.schema c.args.policies.now c.is_policy_set.ensures
    ((c.no_errors_where_accepted.ensures c.args.schema.now c.args.policies.now).0 none)
