use Rattle.std.proofs.Common.{sym, ◌∙◌}
use Rattle.manifest_core.specs.Same.{same_manifests_equiv}
use Rattle.entity_manifest.proofs.checked.checked_manifest.Goals as goal

pub returns-else-eq-clause-other : goal.returns-else-eq-clause-other
returns-else-eq-clause-other c _ m h =
    let computed = c.in_ok-manifest.manifest in
    let one = c.policies_have_one_manifest.ensures c.args.schema.now c.args.policies.now.policies m computed h c.in_ok-manifest.ensures.manifest in
    same_manifests_equiv.congr m computed c.args.given.now one ∙ sym c.if-eq.ensures
