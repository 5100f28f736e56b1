use Rattle.live_manifest.proofs.Others.{taken_end}
use Rattle.live_manifest.proofs.rest.others.Goals as goal

pub returns : goal.returns
returns c = taken_end c.args.schema.now c.args.tries.now c.args.id.now c.args.policies.now.policies c.loop-policy.policy-iterator _ c.in-None.ensures.steps.0 c.loop-policy.invariant
