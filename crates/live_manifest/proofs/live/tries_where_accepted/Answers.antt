use Rattle.live_manifest.proofs.Adding.{own_typed}
use Rattle.live_manifest.proofs.live.tries_where_accepted.Goals as goal

pub returns : goal.returns
returns c = λ accepted id p is ts found.
    own_typed c.args.schema.now c.action_ids-actions.ensures.schema c.args.policies.now c.is_policy_set.ensures accepted c.each_found_is_typed.ensures c.accepted_are_typed.ensures id p is ts found
