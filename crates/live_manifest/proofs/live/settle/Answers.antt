use Rattle.live_manifest.proofs.Outcomes.{some_removed}
use Rattle.live_manifest.proofs.live.settle.Goals as goal

pub take_back-requires : goal.take_back-requires
take_back-requires g c = some_removed c.args.policies.now c.is_policy_set.ensures c.args.id c.requires
