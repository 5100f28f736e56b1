use Rattle.manifest_computation.proofs.Covering.{where_reached}
use Rattle.manifest_computation.proofs.request.slice_is_enough.Goals as goal

pub returns : goal.returns
returns c =
    c.slices_are_enough.ensures c.args.schema.now c.action_ids-actions.ensures.schema c.args.policies.now c.is_policy_set.ensures c.have_keys_once.ensures c.args.request.now c.args.entities.now
    (where_reached c.args.schema.now c.args.policies.now c.args.request.now c.args.entities.now c.requires)
