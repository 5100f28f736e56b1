use Rattle.policy_validate.proofs.levels.sound_where_accepted.Goals as goal

pub returns : goal.returns
returns c = λ none.
    let schema = c.args.schema.now in
    let policies = c.args.policies.now in
    c.accepted_levels_are_sound.ensures schema c.action_ids-actions.ensures.schema c.args.level policies c.is_policy_set.ensures c.have_keys_once.ensures ((c.no_errors_where_accepted_at.ensures schema c.args.level policies).0 none)
