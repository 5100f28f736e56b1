use Rattle.std.proofs.Common.{map, subst}
use Rattle.std.specs.Map.Iter.{deref}
use Rattle.schema_core.specs.RequestEnvs.{env_data_of}
use Rattle.policy_compare.specs.Edits.{AreConditions}
use Rattle.policy_compare.proofs.Owned.{all_there}
use Rattle.policy_compare.proofs.comparing.conditions_in.Goals as goal

pub returns : goal.returns
returns c =
    let schema = c.args.at.now.schema.now in
    let env = env_data_of c.args.at.now.env.now in
    let cs = c.loop-policy.conditions.items in
    subst (λ rs. AreConditions schema env (map deref rs) cs) c.deref-policy-items.ensures.value
    (all_there schema env c.deref-policy-items.result.now c.loop-policy.policy-index cs c.loop-policy-test.false c.loop-policy.invariant)
