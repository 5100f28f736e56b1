use Rattle.std.proofs.Common.{sym, subst}
use Rattle.manifest_computation.specs.Computed.{IsManifestOf}
use Rattle.policy_gate.proofs.Lives.{written_text}
use Rattle.policy_gate.proofs.Results.{more}
use Rattle.policy_gate.proofs.live.manifest_reply.Goals as goal

pub returns-in-Ok-clause-work : goal.returns-in-Ok-clause-work
returns-in-Ok-clause-work c =
    let of_set = c.policies-policies.ensures.policies in
    more _ _ (λ r is. written_text c.args.live.now.schema c.args.live.now.policies _ _ _ c.policies-policies.ensures.accepted of_set c.is_policy_set.ensures c.have_keys_once.ensures
    (subst (λ s. IsManifestOf s c.policies-policies.result.now.policies c.in-Ok.manifest) c.schema.ensures c.in-Ok.ensures.manifest) is.1)
    c.written_manifest.result c.written_manifest.ensures
