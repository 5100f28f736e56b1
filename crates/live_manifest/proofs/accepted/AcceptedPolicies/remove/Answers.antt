use Rattle.live_manifest.proofs.Edited.{removed_accepted}
use Rattle.live_manifest.proofs.accepted.AcceptedPolicies.remove.Goals as goal

pub invariant_of-self : goal.invariant_of-self
invariant_of-self c =
    removed_accepted c.edits_keep_acceptance.ensures c.self.inside.schema.now c.self.inside.policies c.is_policy_set.ensures c.self.invariant c.args.id.now c.remove.new.self
    c.remove.result c.remove.ensures.removed c.remove.ensures.unchanged
