use Rattle.schema_core.specs.RequestEnvs.{env_data_of}
use Rattle.policy_compare.proofs.Owned.{HaveConditions}
use Rattle.policy_compare.proofs.comparing.conditions_in.Given as goal

abbrev pub invariant-loop-policy : goal.invariant-loop-policy
invariant-loop-policy l = HaveConditions l.at.schema.now (env_data_of l.at.env.now) l.policy-items l.policy-index l.conditions.items
