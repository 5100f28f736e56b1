use Rattle.live_manifest.proofs.Taking.{surely_removed}
use Rattle.live_manifest.proofs.live.take_back.Goals as goal

pub returns : goal.returns
returns c =
    surely_removed c.args.policies.now c.remove-removed.new.self c.args.id.now c.remove-removed.result c.remove-removed.ensures.removed c.remove-removed.ensures.refused c.requires
