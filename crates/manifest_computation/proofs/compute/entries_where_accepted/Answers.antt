use Rattle.schema_core.specs.EnvData.{unlinked_envs}
use Rattle.manifest_computation.proofs.Entries.{entries_same}
use Rattle.manifest_computation.proofs.compute.entries_where_accepted.Goals as goal

pub returns : goal.returns
returns c = λ accepted m entries.
    let schema = c.args.schema.now in
    let s = c.args.policies.now in
    let set = c.is_policy_set.ensures in
    let typed = c.accepted_are_typed.ensures schema c.action_ids-actions.ensures.schema s set accepted in
    entries_same schema s.policies (c.found_are_typed.ensures schema s set accepted) (unlinked_envs schema) m typed entries
