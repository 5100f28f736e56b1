use Rattle.std.proofs.Common.{sym}
use Rattle.live_manifest.proofs.Outcomes.{plainly_removed, policy_gone}
use Rattle.live_manifest.proofs.live.LiveManifest.remove.Goals as goal

pub invariant_of-self-in-Ok-remove : goal.invariant_of-self-in-Ok-remove
invariant_of-self-in-Ok-remove c =
    policy_gone c.edits_keep_acceptance.ensures c.self.inside.schema.now c.self.inside.policies c.is_policy_set.ensures c.self.inside.manifest c.self.inside.tries c.self.invariant.0 c.self.invariant.1 c.args.id.now
    c.remove-2.new.self c.in-Ok-remove.ensures.removed c.in_ok-left.left c.in_ok-left.ensures c.remove-tries.new.self c.remove-tries.ensures.updates

pub invariant_of-self-in-Ok-remove-2 : goal.invariant_of-self-in-Ok-remove-2
invariant_of-self-in-Ok-remove-2 c =
    policy_gone c.edits_keep_acceptance.ensures c.self.inside.schema.now c.self.inside.policies c.is_policy_set.ensures c.self.inside.manifest c.self.inside.tries c.self.invariant.0 c.self.invariant.1 c.args.id.now
    c.remove-2.new.self c.in-Ok-remove.ensures.removed c.in_ok-left.left c.in_ok-left.ensures c.remove-tries.new.self c.remove-tries.ensures.updates

pub invariant_of-self : goal.invariant_of-self
invariant_of-self c =
    plainly_removed c.edits_keep_acceptance.ensures c.self.inside.schema.now c.self.inside.policies c.is_policy_set.ensures c.self.inside.manifest c.self.inside.tries c.self.invariant.0 c.self.invariant.1 c.args.id.now
    (sym c.if-not-has_policy.ensures) c.remove.new.self c.remove.result c.remove.ensures.removed c.remove.ensures.unchanged
