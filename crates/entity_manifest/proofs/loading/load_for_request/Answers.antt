use Rattle.std.proofs.Common.{◌⊎◌}
use Rattle.entity_loading.specs.Begun.{SomeRootBlocks}
use Rattle.entity_loading.specs.Rounds.{Sticks}
use Rattle.entity_manifest.proofs.ByManifest.{promised}
use Rattle.entity_manifest.proofs.loading.load_for_request.Goals as goal

pub returns-clause-enough : goal.returns-clause-enough
returns-clause-enough g c =
    let e = c.load_entities.ensures in
    (promised (λ t v. SomeRootBlocks t c.args.request.now v ⊎ Sticks t v) c.loaded_is_enough.ensures c.refusals_are_faults.ensures
    c.args.schema.now c.action_ids-actions.ensures.schema c.args.policies.now c.is_policy_set.ensures c.have_keys_once.ensures c.requires.accepted
    c.args.manifest.now c.requires.manifest c.args.request.now c.requires.whole c.requires.conforms
    (g.D.EntityLoader.state c.args.loader.now) (g.D.EntityLoader.state c.load_entities.new.loader) c.load_entities.result
    record { between = e.between; right = e.right; cause = e.cause; without = e.cause_without; none = e.none }).enough

pub returns-clause-part : goal.returns-clause-part
returns-clause-part g c =
    let e = c.load_entities.ensures in
    (promised (λ t v. SomeRootBlocks t c.args.request.now v ⊎ Sticks t v) c.loaded_is_enough.ensures c.refusals_are_faults.ensures
    c.args.schema.now c.action_ids-actions.ensures.schema c.args.policies.now c.is_policy_set.ensures c.have_keys_once.ensures c.requires.accepted
    c.args.manifest.now c.requires.manifest c.args.request.now c.requires.whole c.requires.conforms
    (g.D.EntityLoader.state c.args.loader.now) (g.D.EntityLoader.state c.load_entities.new.loader) c.load_entities.result
    record { between = e.between; right = e.right; cause = e.cause; without = e.cause_without; none = e.none }).part

pub returns-clause-exact : goal.returns-clause-exact
returns-clause-exact g c =
    let e = c.load_entities.ensures in
    (promised (λ t v. SomeRootBlocks t c.args.request.now v ⊎ Sticks t v) c.loaded_is_enough.ensures c.refusals_are_faults.ensures
    c.args.schema.now c.action_ids-actions.ensures.schema c.args.policies.now c.is_policy_set.ensures c.have_keys_once.ensures c.requires.accepted
    c.args.manifest.now c.requires.manifest c.args.request.now c.requires.whole c.requires.conforms
    (g.D.EntityLoader.state c.args.loader.now) (g.D.EntityLoader.state c.load_entities.new.loader) c.load_entities.result
    record { between = e.between; right = e.right; cause = e.cause; without = e.cause_without; none = e.none }).exact

pub returns-clause-decided : goal.returns-clause-decided
returns-clause-decided g c =
    let e = c.load_entities.ensures in
    (promised (λ t v. SomeRootBlocks t c.args.request.now v ⊎ Sticks t v) c.loaded_is_enough.ensures c.refusals_are_faults.ensures
    c.args.schema.now c.action_ids-actions.ensures.schema c.args.policies.now c.is_policy_set.ensures c.have_keys_once.ensures c.requires.accepted
    c.args.manifest.now c.requires.manifest c.args.request.now c.requires.whole c.requires.conforms
    (g.D.EntityLoader.state c.args.loader.now) (g.D.EntityLoader.state c.load_entities.new.loader) c.load_entities.result
    record { between = e.between; right = e.right; cause = e.cause; without = e.cause_without; none = e.none }).decided

pub returns-clause-honest : goal.returns-clause-honest
returns-clause-honest g c =
    let e = c.load_entities.ensures in
    (promised (λ t v. SomeRootBlocks t c.args.request.now v ⊎ Sticks t v) c.loaded_is_enough.ensures c.refusals_are_faults.ensures
    c.args.schema.now c.action_ids-actions.ensures.schema c.args.policies.now c.is_policy_set.ensures c.have_keys_once.ensures c.requires.accepted
    c.args.manifest.now c.requires.manifest c.args.request.now c.requires.whole c.requires.conforms
    (g.D.EntityLoader.state c.args.loader.now) (g.D.EntityLoader.state c.load_entities.new.loader) c.load_entities.result
    record { between = e.between; right = e.right; cause = e.cause; without = e.cause_without; none = e.none }).honest

pub returns-clause-cause : goal.returns-clause-cause
returns-clause-cause g c =
    let e = c.load_entities.ensures in
    (promised (λ t v. SomeRootBlocks t c.args.request.now v ⊎ Sticks t v) c.loaded_is_enough.ensures c.refusals_are_faults.ensures
    c.args.schema.now c.action_ids-actions.ensures.schema c.args.policies.now c.is_policy_set.ensures c.have_keys_once.ensures c.requires.accepted
    c.args.manifest.now c.requires.manifest c.args.request.now c.requires.whole c.requires.conforms
    (g.D.EntityLoader.state c.args.loader.now) (g.D.EntityLoader.state c.load_entities.new.loader) c.load_entities.result
    record { between = e.between; right = e.right; cause = e.cause; without = e.cause_without; none = e.none }).cause
