use Rattle.policy_gate.proofs.answer.is_well_made.Goals as goal

pub returns : goal.returns
returns c = record { schema = c.action_ids-actions.ensures.schema; policies = c.is_policy_set.ensures; keys = c.have_keys_once.ensures }
