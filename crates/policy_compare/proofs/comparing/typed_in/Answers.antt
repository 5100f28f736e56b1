use Rattle.std.proofs.Common.{ap}
use Rattle.schema_core.specs.RequestEnvs.{env_data_of}
use Rattle.policy_compare.proofs.Typed.{has_sides, left_by}
use Rattle.policy_compare.proofs.comparing.typed_in.Goals as goal

pub returns-in-Success : goal.returns-in-Success
returns-in-Success c =
    has_sides c.outline_decides.ensures c.check_is_exact.ensures c.args.at.now.schema.now c.action_ids-actions.ensures.schema (env_data_of c.args.at.now.env.now)
    c.args.condition.now c.requires c.keys_are_once.ensures c.args.policy_id.now c.in_ok-typed.field-0 c.in_ok-typed.ensures c.in-Success.typed (ap left_by c.in-Success.is)

pub returns-in-Irrelevant : goal.returns-in-Irrelevant
returns-in-Irrelevant c =
    has_sides c.outline_decides.ensures c.check_is_exact.ensures c.args.at.now.schema.now c.action_ids-actions.ensures.schema (env_data_of c.args.at.now.env.now)
    c.args.condition.now c.requires c.keys_are_once.ensures c.args.policy_id.now c.in_ok-typed.field-0 c.in_ok-typed.ensures c.in-Irrelevant.typed (ap left_by c.in-Irrelevant.is)
