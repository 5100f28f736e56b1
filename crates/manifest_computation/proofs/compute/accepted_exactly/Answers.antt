use Rattle.manifest_computation.proofs.compute.accepted_exactly.Goals as goal

pub returns : goal.returns
returns c = c.accepted_by_rules.ensures c.args.schema.now c.action_ids-actions.ensures.schema c.args.policies.now c.is_policy_set.ensures
